-- Tables whose rows all stand for something, each under a key of its own, and tables of plans, whose rows are all of
-- years that an office can have.
use Rattle.std.specs.Prelude.{◌≡◌, ℕ, List, Option, Some, IsSome}
use Rattle.std.specs.Ordering.{nat_cmp}
use Rattle.std.specs.declared.cmp.Ordering.{Ordering}
use Rattle.std.specs.declared.cmp.Ordering.TheVariants.{Equal}
use Rattle.sqlite.specs.Order.{Row, column}
use Rattle.sqlite.specs.Tree.{Trees}
use Rattle.sqlite_rules.specs.Lists.{Has}
use Rattle.cpi_sql_rows.specs.Lists.{collector_in, outlet_in, item_in, calendar_in, number_within}
use Rattle.cpi_sql_rows.specs.Tables.{table_of_calendar, table_of_collectors, table_of_items, table_of_nodes}
use Rattle.cpi_sql_rows.specs.Tables.{table_of_outlets, table_of_plan_items, table_of_plan_refs}

-- no two rows stand for one key with different contents
unfoldable pub IsKeyed : {X K : Type 0} → (K → K → Ordering) → (X → K) → (Row → Option X) → List Row → Type 0
IsKeyed {X} cmp key entry rows = (r s : Row) (x y : X) → Has rows r → Has rows s → entry r ≡ Some x → entry s ≡ Some y
    → cmp (key x) (key y) ≡ Equal → x ≡ y

-- each row stands for something: the types take it
unfoldable pub AllStand : {X : Type 0} → (Row → Option X) → List Row → Type 0
AllStand entry rows = (r : Row) → Has rows r → IsSome (entry r)

-- each row stands for a value, and no two have one key
pub record IsWhole {X K : Type 0} (cmp : K → K → Ordering) (key : X → K) (entry : Row → Option X) (rows : List Row)
    : Type 0 where
  pub keyed : IsKeyed cmp key entry rows
  pub stand : AllStand entry rows

-- the types take each row of a small table, and no two have one key
pub record AreWhole (trees : Trees) : Type 0 where
  pub collectors : IsWhole nat_cmp (λ b. b.number) collector_in (trees table_of_collectors.tree)
  pub outlets : IsWhole nat_cmp (λ u. u.number) outlet_in (trees table_of_outlets.tree)
  pub items : IsWhole nat_cmp (λ i. i.code) item_in (trees table_of_items.tree)
  pub calendar : IsWhole nat_cmp (λ r. r.month) calendar_in (trees table_of_calendar.tree)

-- ---- rows of plans

-- the year in a column, if an office can have a plan of that year, from 2000 to 2199
abbrev pub year_in : ℕ → Row → Option ℕ
year_in place r = number_within 2000 2199 (column r place)

-- each row is of such a year, which is in that column
abbrev pub AreOfYears : ℕ → List Row → Type 0
AreOfYears place rows = AllStand (year_in place) rows

-- each row of a plan is of a year that an office can have; that of a reference month is its rowid
pub record HavePlanYears (trees : Trees) : Type 0 where
  pub nodes : AreOfYears 1 (trees table_of_nodes.tree)
  pub places : AreOfYears 1 (trees table_of_plan_items.tree)
  pub references : AreOfYears 0 (trees table_of_plan_refs.tree)
