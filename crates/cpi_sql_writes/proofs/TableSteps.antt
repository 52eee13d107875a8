-- One statement of a transaction on one table: a row is added, or the rows of a holder are dropped.
use Rattle.std.proofs.Common.{◌≡◌, inl, inr, ℕ, List, [], ◌∷◌, Bool, slice_get, Some, None}
use Rattle.std.proofs.Common.{IsTrue, Option, Result, Ok, sym, ap, subst, ◌∙◌}
use Rattle.std.proofs.lemmas.Bool.{both_ways, false_from_ne_true}
use Rattle.std.specs.Ordering.{is_eq}
use Rattle.std.specs.Cmp.{tied_itself}
use Rattle.std.specs.List.{list_all}
use Rattle.sqlite.specs.declared.types.Value.TheVariants.{Null, Int}
use Rattle.sqlite.specs.Order.{Row, value_cmp}
use Rattle.sqlite.specs.Tree.{Trees, put_row, rowid}
use Rattle.sqlite.specs.Table.{Table}
use Rattle.sqlite.specs.Edit.{edit_of, edited, id_in, without_all}
use Rattle.sqlite.specs.Source.{Source}
use Rattle.sqlite.specs.Command.TheVariants.{Insert, Delete}
use Rattle.sqlite.specs.Rowids.TheVariants.{Chosen, Given}
use Rattle.sqlite.specs.Term.{Term, col, holds}
use Rattle.sqlite.specs.Does.{Tally, OnRows}
use Rattle.sqlite.specs.Effect.{Database}
use Rattle.sqlite.specs.Program.{overlay}
use Rattle.sqlite.specs.Rows.{Written}
use Rattle.sqlite.specs.State.{State, mode_of}
use Rattle.sqlite.proofs.Callers.{one_step}
use Rattle.sqlite_rules.specs.Calls.{ids_of}
use Rattle.sqlite_rules.specs.Edit.{taken_by}
use Rattle.sqlite_rules.proofs.TableLemmas.{int_is}
use Rattle.sqlite_rules.proofs.ProbeLemmas.{has_mapped, mapped_has}
use Rattle.sqlite_value.proofs.OrderLemmas.{value_cmp_total}
use Rattle.cpi_sql_rows.specs.Tables.{office_schema}
use Rattle.cpi_sql_rows.specs.Texts.{whole_query}
use Rattle.cpi_sql_rows.specs.Shelf.{HasRowids}
use Rattle.cpi_sql_rows.specs.Steps.{IsRowStep, SameBut}
use Rattle.cpi_sql_rows.proofs.Change.{IsChange, is_change}
use Rattle.cpi_sql_rows.proofs.Frame.{all_tables_of}
use Rattle.cpi_sql_rows.proofs.Reading.{Members, members, left_has, has_left}
use Rattle.cpi_sql_rows.proofs.KeptRowids.{rowids_left, same_rowid}
use Rattle.cpi_sql_rows.proofs.TableRows.{AddsRow, GivesOne, adds_one, no_work, on_table, task_on}
use Rattle.cpi_sql_rows.proofs.Texts.{Makes}
use Rattle.cpi_sql_rows.proofs.Unchanged.{others_same}
use Rattle.cpi_sql_rows.proofs.Writing.{as_plain, went, same_value}
use Rattle.cpi_sql_writes.specs.Within.{AddsTo, Changes, Drops, IsReady, RanStatement, Within}
use Rattle.cpi_sql_writes.proofs.AddedRows.{added_one}
use Rattle.cpi_sql_writes.proofs.Withins.{within_as}

-- what a statement makes of the rows of one table
pub record IsMade (tree : ℕ) (Rows : List Row → List Row → Type 0) (old : Trees) (after : Database) : Type 0 where
  pub schema : after.schema ≡ office_schema
  pub rows : Rows (old tree) (after.trees tree)
  pub rowids : HasRowids (after.trees tree)
  pub others : SameBut (tree ∷ []) old after.trees

-- so it is a step of the transaction that it is run in
pub made_step : (tree : ℕ) (text : List ℕ) (params : Row) (Done : Trees → Database → Type 0)
    → IsChange text params Done → (Rows : List Row → List Row → Type 0) (old new : State)
    → (HasRowids (old.now.trees tree) → Done old.now.trees new.now → IsMade tree Rows old.now.trees new.now)
    → IsTrue old.in_transaction → RanStatement text params old new → IsReady tree old → IsRowStep tree Rows old new
made_step tree text params Done makes Rows old new turn inside run ready =
    let ran = makes.ran old new run.0 ready.schema run.1 in
    let made = turn ready.rowids ran.0 in
    record {
      inside = ran.1 ∙ inside;
      schema = made.schema;
      all = λ _. all_tables_of new.now made.schema ran.2;
      rows = made.rows;
      rowids = made.rowids;
      others = made.others;
    }

module _ (terms : List Term) (params : Row) (is_of : Row → Bool)
    (tested : (r : Row) → list_all (holds (params ∷ r ∷ [])) terms ≡ is_of r) where
  -- the rows that were found, and no others, are taken out
  dropped_by : (rows found : List Row) → HasRowids rows → Members terms (col 1 0 ∷ []) rows params found
      → Drops is_of rows (without_all rows (ids_of found))
  unfolding HasRowids
  dropped_by rows found shaped shown = λ r. (
    (λ h.
        let kept = left_has (ids_of found) rows r h in
        let is : rowid r ≡ Int (id_in (rowid r)) = int_is (rowid r) (shaped.0 r kept.0) in (
          kept.0,
          false_from_ne_true _ (λ hit.
              let there = shown.complete r kept.0 (tested r ∙ hit) in
              let id = mapped_has (λ x. id_in (rowid x)) found (rowid r ∷ []) there in
              both_ways _ (kept.1 (id_in (rowid r)) id) (ap (λ v. is_eq (value_cmp (rowid r) v)) (sym is)
              ∙ ap is_eq (tied_itself value_cmp_total (rowid r)))),
        )),
    (λ h. has_left (ids_of found) rows r h.0 (λ id among. false_from_ne_true _ (λ hit.
        let x = has_mapped (λ y. id_in (rowid y)) found id among in
        let y = shown.sound x.0 x.1 in
        let id_is : id_in (rowid y.0) ≡ id = sym (x.2 ∙ ap (λ z. id_in (rowid z)) y.3) in
        let same = same_rowid rows shaped r y.0 id h.0 y.1 (int_is (rowid y.0) (shaped.0 y.0 y.1) ∙ ap Int id_is) hit in
        both_ways _ h.1 (ap is_of same ∙ sym (tested y.0) ∙ y.2)))),
  )

module _ (it : Table) (at : ℕ) (stands : slice_get office_schema.tables at ≡ Some (as_plain it)) where
  -- a DELETE by what the first columns of a row are
  rows_dropped : (terms : List Term) (params : Row) (is_of : Row → Bool) (limit : Option ℕ) (s : State) (db : Trees)
      (tally : Tally) (after : Database)
      → ((r : Row) → list_all (holds (params ∷ r ∷ [])) terms ≡ is_of r)
      → overlay db [] it.tree ≡ db it.tree → HasRowids (db it.tree)
      → OnRows (task_on it at stands limit s params) (mode_of s) None
      (Delete at (record { lets = []; body = whole_query it.tree terms (col 1 0 ∷ []) [] })) db (Ok (tally, after))
      → IsMade it.tree (Drops is_of) db after
  rows_dropped terms params is_of limit s db tally after tested stored shaped does =
      let done = went does in
      let now = ap (λ (p : Tally × Database). p.1) (same_value (went (went done.2).2).2) in
      let asked = went done.1 in
      let shown = subst (λ rows. Members terms (col 1 0 ∷ []) rows params asked.0) stored
      (members it.tree terms (col 1 0 ∷ []) [] (overlay db []) params asked.0 (asked.1.answer Null)) in
      let made = went asked.2 in
      let edit = edit_of db (as_plain it) (ids_of asked.0) Given 0 [] in
      let applied = one_step office_schema (mode_of s).keys db made.0 edit (no_work it.tree (taken_by db edit) [])
      made.1 in
      let trees : done.0.trees ≡ made.0 = ap (λ (it : Written). it.trees) (same_value made.2) in
      let same : (t : ℕ) → after.trees t ≡ made.0 t =
      λ t. ap (λ (d : Database). d.trees t) now ∙ ap (λ (all : Trees). all t) trees in
      let rows : after.trees it.tree ≡ without_all (db it.tree) (ids_of asked.0) = same it.tree ∙ applied.rows in
      record {
        schema = ap (λ (d : Database). d.schema) now;
        rows = subst (Drops is_of (db it.tree)) (sym rows)
            (dropped_by terms params is_of tested (db it.tree) asked.0 shaped shown);
        rowids = subst HasRowids (sym rows) (rowids_left (ids_of asked.0) (db it.tree) shaped);
        others = others_same it.tree db made.0 after.trees same applied.tables;
      }

  module _ {A E : Type 0} (text : List ℕ) (params : Row) (old new : State) (result : Result A E)
      (ran : Within old new result (RanStatement text params)) where
    pub adds_row : {X : Type 0} (from : Source) (source : Row) (row : Trees → Row) → Makes text (Insert at from)
        → GivesOne it params from source
        → ((db : Trees)
        → edited db (edit_of db (as_plain it) [] Chosen 0 (source ∷ [])) ≡ put_row (row db) (db it.tree))
        → (entry : Row → Option (ℕ × X)) (GoesBy : ℕ → Type 0) (x : X)
        → ((number : ℕ) → GoesBy number → entry (row old.now.trees) ≡ Some (number, x))
        → Within old new result (Changes it.tree (AddsTo entry GoesBy (x ∷ [])))
    adds_row from source row is one becomes entry GoesBy x reads =
        within_as old new result (RanStatement text params) (Changes it.tree (AddsTo entry GoesBy (x ∷ []))) ran
        (made_step it.tree text params (λ db. AddsRow it.tree (row db) db)
        (adds_one it at stands params from source row one becomes text is) (AddsTo entry GoesBy (x ∷ [])) old new
        (λ ids added. record {
          schema = added.schema;
          rows = λ number named. added_one entry number x (row old.now.trees) (old.now.trees it.tree)
              (new.now.trees it.tree) (reads number named) added.rows added.kept;
          rowids = added.rowids ids;
          others = added.others;
        }))

    pub drops_rows : (terms : List Term) (is_of : Row → Bool)
        → Makes text (Delete at (record { lets = []; body = whole_query it.tree terms (col 1 0 ∷ []) [] }))
        → ((r : Row) → list_all (holds (params ∷ r ∷ [])) terms ≡ is_of r)
        → ((db : Trees) → overlay db [] it.tree ≡ db it.tree)
        → Within old new result (Changes it.tree (Drops is_of))
    drops_rows terms is_of is tested stored =
        let command = Delete at (record { lets = []; body = whole_query it.tree terms (col 1 0 ∷ []) [] }) in
        let Done : Trees → Database → Type 0 =
        λ db after. HasRowids (db it.tree) → IsMade it.tree (Drops is_of) db after in
        within_as old new result (RanStatement text params) (Changes it.tree (Drops is_of)) ran
        (made_step it.tree text params Done (is_change text command is params (λ o m t c w. w)
        (λ e. elim e [ inl commit ↦ absurd cc | inr release ↦ absurd (let f = release.1 in cc) ]) Done
        (λ limit s db tally after does shaped.
        rows_dropped terms params is_of limit s db tally after tested (stored db) shaped
        (on_table it at stands limit s params db command (tally, after) does))) (Drops is_of) old new
        (λ ids done. done ids))
