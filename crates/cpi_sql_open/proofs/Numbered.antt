-- The number of the schema is put: when there was none, or in place of another.
use Rattle.std.proofs.Common.{◌≡◌, ℕ, pos, List, [], ◌∷◌, inl, inr, codes, IsTrue, refl, sym, ap, subst, ◌∙◌, arith}
use Rattle.sqlite.specs.declared.types.Value.TheVariants.{Null, Int}
use Rattle.sqlite.specs.Order.{Row, column}
use Rattle.sqlite.specs.Edit.{edited, edit_of}
use Rattle.sqlite.specs.Rowids.TheVariants.{Chosen}
use Rattle.sqlite.specs.Source.TheVariants.{Values}
use Rattle.sqlite.specs.Term.{lit}
use Rattle.sqlite.specs.Tree.{Trees, put_row}
use Rattle.sqlite_catalog.specs.Listing.{IsSound}
use Rattle.sqlite_trees.specs.View.{is_int}
use Rattle.sqlite_rules.specs.Lists.{Has}
use Rattle.cpi_sql_rows.specs.Tables.{office_schema, table_of_version}
use Rattle.cpi_sql_rows.specs.Texts.{put_version_text}
use Rattle.cpi_sql_rows.specs.Making.{HasAllTables}
use Rattle.cpi_sql_rows.specs.Numbered.{IsVersion}
use Rattle.cpi_sql_rows.proofs.Texts.{put_version_is}
use Rattle.cpi_sql_rows.proofs.Writing.{cast_int, cast_null}
use Rattle.cpi_sql_open.specs.Stages.{RanAtStage, RanEach, Stage}
use Rattle.cpi_sql_open.proofs.Edits.{inserted}
use Rattle.cpi_sql_open.proofs.Frames.{IsLeft, left_then}
use Rattle.cpi_sql_open.proofs.Moves.{clears, number_texts, numbers_are}
use Rattle.cpi_sql_open.proofs.Steps.{HaveNumbers, step_taken}

-- the number of schema 2 is there, and so are all its tables
pub record IsNumbered (trees : List ℕ) (old new : Stage) : Type 0 where
  pub left : IsLeft trees old new
  pub sound : IsSound office_schema new.now.trees
  pub version : IsVersion 2 (new.now.trees 0)

-- what a database lists of itself is its schema
pub all_there : (trees : Trees) → IsSound office_schema trees → HasAllTables trees
unfolding HasAllTables
all_there trees sound = sound

abbrev version_row : Row
version_row = Int (pos 2) ∷ Null ∷ []

pub version_put : (old new : Stage) → RanAtStage put_version_text old new → IsTrue old.in_transaction
    → old.now.schema ≡ office_schema → old.now.trees 0 ≡ [] → IsNumbered (0 ∷ []) old new
version_put old new ran inside has empty =
    let it = inserted 0 (omega arith) put_version_text old new inside has
    (Values (lit (Int (pos 2)) ∷ lit Null ∷ []) 2) put_version_is ran in
    let is : edited old.now.trees (edit_of old.now.trees table_of_version [] Chosen 0 (version_row ∷ []))
    ≡ put_row version_row (old.now.trees 0) = rw (cast_null, cast_int (pos 2)) refl in
    let rows : new.now.trees 0 ≡ version_row ∷ [] = it.2.applied.rows
    ∙ ap (λ xs. edited old.now.trees (edit_of old.now.trees table_of_version [] Chosen 0 xs)) it.1.1
    ∙ is ∙ ap (put_row version_row) empty in
    record { left = it.2.left; sound = it.2.sound; version = (version_row, rows, refl) }

one_number : (n : ℕ) (rows : List Row) → IsVersion n rows → HaveNumbers rows
one_number n rows v r h =
    let at : r ≡ v.0 = elim (subst (λ l. Has l r) v.1 h) [ inl same ↦ same | inr none ↦ absurd none ] in
    subst (λ x. IsTrue (is_int x)) (sym (ap (λ (x : Row). column x 0) at ∙ v.2)) refl

pub numbered : (a b : Stage) → RanEach number_texts a b → IsTrue a.in_transaction → a.now.schema ≡ office_schema
    → IsVersion 1 (a.now.trees 0) → IsNumbered (0 ∷ 0 ∷ []) a b
numbered a b ran inside has one =
    let mid = ran.0 in
    let first = step_taken (codes "DELETE FROM version") (clears 0) numbers_are.0 refl a mid ran.1 inside has tt in
    let second = version_put mid b (subst (RanAtStage put_version_text mid) ran.2.2 ran.2.1) first.0.inside
    first.0.schema
    (first.1 (one_number 1 (a.now.trees 0) one)) in
    record {
      left = left_then (0 ∷ []) (0 ∷ []) a mid b first.0 second.left;
      sound = second.sound;
      version = second.version;
    }
