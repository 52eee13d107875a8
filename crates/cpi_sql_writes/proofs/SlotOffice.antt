-- What a slot was given, put by one statement, as a change of the lists.
use Rattle.std.proofs.Common.{◌≡◌, ℕ, pos, List, [], ◌∷◌, Some, None, Option, Result, refl}
use Rattle.std.specs.String.{string_bytes}
use Rattle.std.specs.Ordering.{nat_cmp}
use Rattle.std.proofs.lemmas.Cmp.{nat_cmp_total}
use Rattle.sqlite.specs.declared.types.Value.TheVariants.{Null, Int}
use Rattle.sqlite.specs.Order.{Row}
use Rattle.sqlite.specs.Tree.{Trees}
use Rattle.sqlite.specs.Edit.{next_rowid}
use Rattle.sqlite.specs.Values.{bound_value}
use Rattle.sqlite.specs.Cast.{cast}
use Rattle.sqlite.specs.Kind.TheVariants.{Integer}
use Rattle.sqlite.specs.Effect.{Database}
use Rattle.sqlite.specs.State.{State}
use Rattle.cpi_rows.specs.Held.{held_cmp, held_key}
use Rattle.cpi_store.specs.declared.given.Given.{Given}
use Rattle.cpi_sql_rows.specs.Tables.{table_of_assignments_2}
use Rattle.cpi_sql_rows.specs.Texts.{put_assignment_text, replace_given_text}
use Rattle.cpi_sql_rows.specs.Lists.{assignments_in, assignment_in_row}
use Rattle.cpi_sql_writes.specs.GivenColumns.{AddsGiven, columns_of, copied_column, given_of, IsNumberFree, PutsGiven}
use Rattle.cpi_sql_writes.specs.GivenColumns.{ReplacesGiven}
use Rattle.cpi_sql_writes.specs.declared.given_columns.GivenColumns.{GivenColumns}
use Rattle.cpi_sql_writes.specs.Rest.{IsOfSlot, KeepsBut}
use Rattle.cpi_sql_rows.specs.Shelf.{HasRowids, IsKeyed}
use Rattle.cpi_sql_rows.proofs.Change.{IsChange}
use Rattle.cpi_sql_rows.proofs.Listed.{PutsRow, listed_put, still_keyed}
use Rattle.cpi_sql_rows.proofs.Lists.{held_total}
use Rattle.cpi_sql_rows.proofs.Inserting.{inserted}
use Rattle.cpi_sql_writes.proofs.AddPremises.{slot_apart}
use Rattle.cpi_sql_rows.proofs.GivenRows.{same_slot, slot_in, slot_places, slot_tells}
use Rattle.cpi_sql_writes.proofs.Kept.{agreed_number, all_kept, over_kept}
use Rattle.cpi_sql_rows.proofs.TableRows.{AddsRow}
use Rattle.cpi_sql_rows.proofs.Upserts.{IsPutOver, PutsOver, puts_row}
use Rattle.cpi_sql_writes.specs.Within.{Changes, RanStatement, Within}
use Rattle.cpi_sql_writes.proofs.Withins.{within_as}
use Rattle.cpi_sql_writes.proofs.SlotRows.{given_added, given_replaced}
use Rattle.cpi_sql_writes.proofs.TableSteps.{made_step}
use Rattle.cpi_sql_rows.proofs.Writing.{cast_int, cast_null}

-- a copied price is bound and written as it is
pub copied_bound : (p : Option ℕ) → bound_value (copied_column p) ≡ copied_column p
copied_bound None = refl
copied_bound (Some p) = refl

copied_fits : (p : Option ℕ) → cast Integer (copied_column p) ≡ copied_column p
copied_fits None = cast_null
copied_fits (Some p) = cast_int (pos p)

abbrev pub slot_key : ℕ × Given → ℕ × ℕ
slot_key = held_key (λ (g : Given). g.assignment.slot)

-- the row is added
abbrev pub Added : GivenColumns → Trees → Database → Type 0
Added c db after = AddsRow 22 (Int (next_rowid (db 22)) ∷ columns_of c) db after

pub row_made : (c : GivenColumns) → IsChange put_assignment_text (columns_of c) (Added c)
row_made c = given_added c.collector c.slot c.outlet (string_bytes c.item) c.first_month c.last_month
    c.series_collector c.series_slot (copied_column c.copied) (copied_fits c.copied)

row_replaced : (c : GivenColumns) → IsChange replace_given_text (columns_of c)
    (λ db after. HasRowids (db 22) → IsPutOver slot_places Null (columns_of c) 22 db after)
row_replaced c = given_replaced c.collector c.slot c.outlet (string_bytes c.item) c.first_month c.last_month
    c.series_collector c.series_slot (copied_column c.copied) (copied_fits c.copied)

module _ (n : ℕ) (g : Given) (c : GivenColumns) (is : given_of c ≡ Some (n, g)) where
  abbrev Puts : List Row → List Row → Type 0
  Puts = PutsRow (held_total nat_cmp_total) slot_key assignment_in_row (n, g)

  put_given : (old new : List Row) → (IsKeyed (held_cmp nat_cmp) slot_key assignment_in_row old → Puts old new)
      → PutsGiven n g old new
  put_given old new row keyed = (
    listed_put (held_total nat_cmp_total) slot_key assignment_in_row (n, g) old new keyed (row keyed),
    still_keyed (held_total nat_cmp_total) slot_key assignment_in_row (n, g) old new keyed (row keyed),
    (row keyed).takes,
  )

  -- the row in place of the slot's former one
  over_puts : (old new : List Row) → PutsOver slot_places Null (columns_of c) old new → Puts old new
  over_puts =
      puts_row slot_places Null (columns_of c) (held_total nat_cmp_total) slot_key assignment_in_row slot_tells (n, g)
      (λ id named. is) (λ r y e. refl) same_slot

  over_leaves : (old new : List Row) → PutsOver slot_places Null (columns_of c) old new
      → KeepsBut (IsOfSlot n g.assignment.slot) old new
  over_leaves old new p =
      over_kept slot_places Null (columns_of c) old new p (IsOfSlot n g.assignment.slot) (λ r hit.
      let row = Null ∷ columns_of c in
      let it = slot_in row n g is in
      let one = agreed_number 1 (2 ∷ []) r row n it.collector hit in
      (one.0, (agreed_number 2 [] r row g.assignment.slot it.slot one.1).0))

  -- the row of a slot that is free
  pub added_puts : (old : Trees) (after : Database) → IsNumberFree n g.assignment.slot (assignments_in (old 22))
      → Added c old after → IsKeyed (held_cmp nat_cmp) slot_key assignment_in_row (old 22)
      → Puts (old 22) (after.trees 22)
  added_puts old after free added keyed =
      inserted (held_total nat_cmp_total) slot_key assignment_in_row (n, g) (old 22) (after.trees 22)
      (Int (next_rowid (old 22)) ∷ columns_of c) is added.rows added.kept keyed
      (slot_apart n g.assignment.slot (assignments_in (old 22)) free)

module _ {A E : Type 0} (c : GivenColumns) (old new : State) (result : Result A E) where
  pub given_puts : Within old new result (RanStatement replace_given_text (columns_of c))
      → Within old new result (λ old new. (n : ℕ) (g : Given) → given_of c ≡ Some (n, g)
      → Changes table_of_assignments_2.tree (ReplacesGiven n g) old new)
  given_puts ran = within_as old new result (RanStatement replace_given_text (columns_of c))
      (λ old new. (n : ℕ) (g : Given)
      → given_of c ≡ Some (n, g) → Changes table_of_assignments_2.tree (ReplacesGiven n g) old new) ran
      (λ inside run n g is ready. made_step 22 replace_given_text (columns_of c) _ (row_replaced c) (ReplacesGiven n g)
      old new (λ ids made. let done = made ids in record {
        schema = done.schema;
        rows = (put_given n g c is _ _ (λ _. over_puts n g c is _ _ done.rows), over_leaves n g c is _ _ done.rows);
        rowids = done.rowids;
        others = done.others;
      }) inside run ready)

  pub given_adds : Within old new result (RanStatement put_assignment_text (columns_of c))
      → Within old new result (λ old new. (n : ℕ) (g : Given) → given_of c ≡ Some (n, g)
      → IsNumberFree n g.assignment.slot (assignments_in (old.now.trees table_of_assignments_2.tree))
      → Changes table_of_assignments_2.tree (AddsGiven n g) old new)
  given_adds ran = within_as old new result (RanStatement put_assignment_text (columns_of c))
      (λ old new. (n : ℕ) (g : Given)
      → given_of c ≡ Some (n, g)
      → IsNumberFree n g.assignment.slot (assignments_in (old.now.trees table_of_assignments_2.tree))
      → Changes table_of_assignments_2.tree (AddsGiven n g) old new) ran
      (λ inside run n g is free ready. made_step 22 put_assignment_text (columns_of c) (Added c) (row_made c)
      (AddsGiven n g) old new (λ ids made. record {
        schema = made.schema;
        rows = (put_given n g c is _ _ (added_puts n g c is old.now.trees new.now free made), all_kept _ _ made.kept);
        rowids = made.rowids ids;
        others = made.others;
      }) inside run ready)
