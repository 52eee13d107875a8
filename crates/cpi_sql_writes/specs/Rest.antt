-- The rows that a change of the office leaves as they are in the tables that it writes: all that it doesn't take the
-- place of, whether a type takes them or not.
use Rattle.std.specs.Prelude.{◌≡◌, ◌⊎◌, ℕ, pos, true, List, Some}
use Rattle.sqlite.specs.declared.types.Value.{Value}
use Rattle.sqlite.specs.declared.types.Value.TheVariants.{Int}
use Rattle.sqlite.specs.Order.{Row, column}
use Rattle.sqlite.specs.State.{State}
use Rattle.sqlite.specs.Tree.{Trees}
use Rattle.sqlite_rules.specs.Lists.{Has}
use Rattle.cpi_store.specs.Office.{Change, PutsItem, PutsPlan, PutsCalendar, Registers, PutsOutlet, Assigns, HandsOver}
use Rattle.cpi_store.specs.Office.{Quotes, Freezes}
use Rattle.cpi_sql_rows.specs.Lists.{month_at}
use Rattle.cpi_sql_rows.specs.Making.{IsOfficeDatabase}
use Rattle.cpi_sql_rows.specs.Shelf.{IsChangedBy, IsDone, equals}
use Rattle.cpi_sql_rows.specs.Tables.{table_of_assignments_2, table_of_calendar, table_of_carried_2}
use Rattle.cpi_sql_rows.specs.Tables.{table_of_collectors, table_of_frozen_2, table_of_items, table_of_levels_2}
use Rattle.cpi_sql_rows.specs.Tables.{table_of_nodes, table_of_outlets, table_of_plan_items, table_of_plan_refs}
use Rattle.cpi_sql_rows.specs.Tables.{table_of_quotes_2, table_of_releases_2}

-- ---- the key that is put, as SQL compares

-- the column contains this number
abbrev pub IsNumber : ℕ → Value → Type 0
IsNumber n v = equals v (Int (pos n)) ≡ true

-- the column contains the number of this month
abbrev pub IsMonth : ℕ → Value → Type 0
IsMonth month v = (n : ℕ) × (month_at n ≡ Some month) × IsNumber n v

-- the row is that of a collector's slot
abbrev pub IsOfSlot : ℕ → ℕ → Row → Type 0
IsOfSlot collector slot r = IsNumber collector (column r 1) × IsNumber slot (column r 2)

-- the row is that of the slot's quote of the month
abbrev pub IsOfQuote : ℕ → ℕ → ℕ → Row → Type 0
IsOfQuote collector slot month r = IsOfSlot collector slot r × IsMonth month (column r 3)

-- the row is in a list of the release
abbrev pub IsOfRelease : ℕ → ℕ → Row → Type 0
IsOfRelease month revision r = IsMonth month (column r 1) × IsNumber revision (column r 2)

-- ---- the rows that stay

-- each row is there
unfoldable pub KeepsAll : List Row → List Row → Type 0
KeepsAll old new = (r : Row) → Has old r → Has new r

-- each row is there, but for rows of which this holds
unfoldable pub KeepsBut : (Row → Type 0) → List Row → List Row → Type 0
KeepsBut Of old new = (r : Row) → Has old r → Has new r ⊎ Of r

-- Each row of the tables that the change writes is there, but for those that have the key of what is put: the year's
-- plan, the month's calendar row, the slot that is handed over, the slot's quote of the month, and lists of the release.
abbrev pub KeepsRest : Change → Trees → Trees → Type 0
KeepsRest (PutsItem i) old new = KeepsAll (old table_of_items.tree) (new table_of_items.tree)
KeepsRest (PutsPlan p) old new =
    KeepsBut (λ r. IsNumber p.year (column r 1)) (old table_of_nodes.tree) (new table_of_nodes.tree)
    × KeepsBut (λ r. IsNumber p.year (column r 1)) (old table_of_plan_items.tree) (new table_of_plan_items.tree)
    × KeepsBut (λ r. IsNumber p.year (column r 0)) (old table_of_plan_refs.tree) (new table_of_plan_refs.tree)
KeepsRest (PutsCalendar d) old new =
    KeepsBut (λ r. IsMonth d.month (column r 0)) (old table_of_calendar.tree) (new table_of_calendar.tree)
KeepsRest (Registers b) old new = KeepsAll (old table_of_collectors.tree) (new table_of_collectors.tree)
KeepsRest (PutsOutlet u) old new = KeepsAll (old table_of_outlets.tree) (new table_of_outlets.tree)
KeepsRest (Assigns b a) old new = KeepsAll (old table_of_assignments_2.tree) (new table_of_assignments_2.tree)
KeepsRest (HandsOver h) old new = KeepsBut (IsOfSlot h.former.number h.ended.assignment.slot)
    (old table_of_assignments_2.tree) (new table_of_assignments_2.tree)
KeepsRest (Quotes b q) old new = KeepsBut (IsOfQuote b.number q.slot q.month)
    (old table_of_quotes_2.tree) (new table_of_quotes_2.tree)
KeepsRest (Freezes x) old new =
    KeepsAll (old table_of_releases_2.tree) (new table_of_releases_2.tree)
    × KeepsBut (IsOfRelease x.month x.revision) (old table_of_frozen_2.tree) (new table_of_frozen_2.tree)
    × KeepsBut (IsOfRelease x.month x.revision) (old table_of_carried_2.tree) (new table_of_carried_2.tree)
    × KeepsBut (IsOfRelease x.month x.revision) (old table_of_levels_2.tree) (new table_of_levels_2.tree)

-- ---- the change, and nothing else

-- the change is made, each other table is as it was, and the other rows are there
pub record MakesOnly (change : Change) (old new : State) : Type 0 where
  pub done : IsDone change old new
  pub rest : KeepsRest change old.now.trees new.now.trees

-- the tables that a crash leaves: those of an office with the change, and nothing else
pub record LeavesOnly (change : Change) (old db : Trees) : Type 0 where
  pub office : IsOfficeDatabase db
  pub made : IsChangedBy change old db
  pub rest : KeepsRest change old db
