-- What the statements on what a slot was given do to the rows.
use Rattle.std.proofs.Common.{◌≡◌, ℕ, pos, List, [], ◌∷◌, refl, ap}
use Rattle.sqlite.specs.Cast.{cast, cast_row}
use Rattle.sqlite.specs.Edit.{next_rowid, with_rowid}
use Rattle.sqlite.specs.Kind.TheVariants.{Integer}
use Rattle.sqlite.specs.Order.{Row}
use Rattle.sqlite.specs.Rowids.TheVariants.{Chosen}
use Rattle.sqlite.specs.Source.TheVariants.{Values}
use Rattle.sqlite.specs.Tree.{put_row, rowid}
use Rattle.sqlite.specs.declared.types.Value.{Value}
use Rattle.sqlite.specs.declared.types.Value.TheVariants.{Null, Int, Text}
use Rattle.cpi_sql_rows.proofs.Change.{IsChange}
use Rattle.cpi_sql_rows.proofs.GivenRows.{slot_places, slots_unique}
use Rattle.cpi_sql_rows.proofs.KeyColumns.{one_row}
use Rattle.cpi_sql_rows.proofs.Reading.{equality}
use Rattle.cpi_sql_rows.proofs.TableRows.{AddsRow, adds_one}
use Rattle.cpi_sql_rows.proofs.Texts.{put_assignment_is, replace_given_is}
use Rattle.cpi_sql_rows.proofs.Upserts.{IsPutOver, IsUpsert, puts_over}
use Rattle.cpi_sql_rows.proofs.Writing.{cast_int, cast_null}
use Rattle.cpi_sql_rows.specs.Shelf.{HasRowids}
use Rattle.cpi_sql_rows.specs.Tables.{table_of_assignments_2}
use Rattle.cpi_sql_rows.specs.Texts.{given_assignment, put_assignment_text, replace_given_text, update_given}

-- the columns of a row: of the slot, its outlet, its item and its months, of its series, and the copied price
abbrev pub slot_columns : ℕ → ℕ → ℕ → List ℕ → ℕ → ℕ → ℕ → ℕ → Value → Row
slot_columns c s o i f l n t k =
    Int (pos c) ∷ Int (pos s) ∷ Int (pos o) ∷ Text i ∷ Int (pos f) ∷ Int (pos l) ∷ Int (pos n) ∷ Int (pos t) ∷ k ∷ []

module _ (c s o : ℕ) (i : List ℕ) (f l n t : ℕ) (k : Value) (fits : cast Integer k ≡ k) where
  abbrev all : Row
  all = slot_columns c s o i f l n t k

  casts : (id : Value) → cast Integer id ≡ id → cast_row table_of_assignments_2 (id ∷ all) ≡ id ∷ all
  casts id fit = rw (
    fit,
    cast_int (pos c),
    cast_int (pos s),
    cast_int (pos o),
    cast_int (pos f),
    cast_int (pos l),
    cast_int (pos n),
    cast_int (pos t),
    fits,
  ) refl

  -- an INSERT
  pub given_added : IsChange put_assignment_text all (λ db. AddsRow 22 (Int (next_rowid (db 22)) ∷ all) db)
  given_added = adds_one table_of_assignments_2 13 refl all (Values given_assignment 10) (Null ∷ all)
      (λ db. Int (next_rowid (db 22)) ∷ all) (λ limit db rows h. h.1)
      (λ db. ap (λ r. put_row (with_rowid Chosen (db 22) r) (db 22)) (casts Null cast_null)) put_assignment_text
      put_assignment_is

  upsert : IsUpsert table_of_assignments_2 13 slot_places Null all all update_given.filter update_given.project
  upsert = record {
    stands = refl;
    stored = λ db. refl;
    fits = cast_null;
    casts = casts;
    numbered = λ rows. (next_rowid rows, refl, refl);
    meets = λ new r. refl;
    one = one_row table_of_assignments_2 slot_places slots_unique;
    tested = λ id z r. equality (rowid r) id;
    written = λ id z r. refl;
    stays = λ id r is hit. refl;
  }

  -- the row in place of the slot's former one
  pub given_replaced : IsChange replace_given_text all
      (λ db after. HasRowids (db 22) → IsPutOver slot_places Null all 22 db after)
  given_replaced = puts_over table_of_assignments_2 13 slot_places Null all all update_given.filter
      update_given.project upsert
      replace_given_text (Values given_assignment 10) replace_given_is (λ limit db rows h. h.1)
