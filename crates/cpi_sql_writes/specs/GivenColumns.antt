-- The columns of a row of a slot, with its assignment and its series, and what putting such a row does.
use Rattle.std.specs.Prelude.{◌≡◌, ℕ, pos, List, [], ◌∷◌, Option, Some, None, option_map}
use Rattle.std.specs.String.{string_bytes}
use Rattle.std.specs.Ordering.{nat_cmp}
use Rattle.sqlite.specs.declared.types.Value.{Value}
use Rattle.sqlite.specs.declared.types.Value.TheVariants.{Null, Int, Text}
use Rattle.sqlite.specs.Order.{Row}
use Rattle.cpi_rows.specs.Keyed.{row_by_number}
use Rattle.cpi_rows.specs.Held.{held_by, held_cmp, held_key}
use Rattle.cpi_store.specs.declared.given.Given.{Given}
use Rattle.cpi_store.specs.declared.series_move.SeriesMove.{SeriesMove}
use Rattle.cpi_store.specs.Office.{put_given, given_until}
use Rattle.cpi_sql_rows.specs.Lists.{given_from, assignment_in_row, assignments_in}
use Rattle.cpi_sql_writes.specs.Rest.{IsOfSlot, KeepsAll, KeepsBut}
use Rattle.cpi_sql_rows.specs.Shelf.{IsKeyed, Takes}
use Rattle.cpi_sql_writes.specs.declared.given_columns.GivenColumns.{GivenColumns}

-- a copied price, or NULL if there is none
abbrev pub copied_column : Option ℕ → Value
copied_column None = Null
copied_column (Some p) = Int (pos p)

-- the row without its rowid
abbrev pub columns_of : GivenColumns → Row
columns_of c =
    Int (pos c.collector) ∷ Int (pos c.slot) ∷ Int (pos c.outlet) ∷ Text (string_bytes c.item)
    ∷ Int (pos c.first_month) ∷ Int (pos c.last_month) ∷ Int (pos c.series_collector) ∷ Int (pos c.series_slot)
    ∷ copied_column c.copied ∷ []

-- the value that the columns stand for, with the collector's number
abbrev pub given_of : GivenColumns → Option (ℕ × Given)
given_of c = given_from (Int (pos c.collector)) (Int (pos c.slot)) (Int (pos c.outlet)) (Text (string_bytes c.item))
    (Int (pos c.first_month)) (Int (pos c.last_month)) (Int (pos c.series_collector)) (Int (pos c.series_slot))
    (copied_column c.copied)

-- the rows contain the slot's new row, in place of its former one
abbrev pub PutsGiven : ℕ → Given → List Row → List Row → Type 0
PutsGiven number g old new = IsKeyed (held_cmp nat_cmp) (held_key (λ g. g.assignment.slot)) assignment_in_row old →
    (assignments_in new ≡ put_given number g (assignments_in old))
    × IsKeyed (held_cmp nat_cmp) (held_key (λ g. g.assignment.slot)) assignment_in_row new
    × Takes assignment_in_row old new

-- the same, and each other row is there
abbrev pub ReplacesGiven : ℕ → Given → List Row → List Row → Type 0
ReplacesGiven number g old new =
    PutsGiven number g old new × KeepsBut (IsOfSlot number g.assignment.slot) old new

-- the rows contain the slot's new row, and each row that was there
abbrev pub AddsGiven : ℕ → Given → List Row → List Row → Type 0
AddsGiven number g old new = PutsGiven number g old new × KeepsAll old new

-- no slot of the collector has the number
abbrev pub IsNumberFree : ℕ → ℕ → List (ℕ × Given) → Type 0
IsNumberFree number slot rows = row_by_number (λ g. g.assignment.slot) slot (held_by number rows) ≡ None

-- the former slot has the assignment that ends, but for its last month, and the new slot is free
pub record CanHandOver (h : SeriesMove) (rows : List (ℕ × Given)) : Type 0 where
  pub stands : option_map (given_until h.ended.assignment.last_month)
      (row_by_number (λ g. g.assignment.slot) h.ended.assignment.slot (held_by h.former.number rows)) ≡ Some h.ended
  pub free : IsNumberFree h.taker.number h.assigned.assignment.slot rows
