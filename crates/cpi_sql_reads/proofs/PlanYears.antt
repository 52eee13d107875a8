-- The rows of the plans of all years, where those of each year from 2000 on were read.
use Rattle.std.proofs.Common.{◌≡◌, ℕ, ◌+◌, ◌-◌, ◌<◌, List, Option, Some, arith, subst}
use Rattle.sqlite.specs.Order.{Row, column}
use Rattle.sqlite.specs.Tree.{Trees}
use Rattle.cpi_sql_rows.specs.Lists.{node_in, place_in_row, reference_month_in_row}
use Rattle.cpi_sql_rows.specs.Shelf.{AllStandFor, ArePlansTaken, IsPlanTaken, year_in}
use Rattle.cpi_sql_rows.specs.Tables.{table_of_nodes, table_of_plan_items, table_of_plan_refs}
use Rattle.cpi_sql_rows.proofs.ReleaseRows.{within_limits}

-- a row of a year that an office can have is one of those years
each_year : {X : Type 0} (place : ℕ) (entry : Row → Option X) (rows : List Row)
    → ((k : ℕ) → k < 200 → AllStandFor (year_in place) entry (2000 + k) rows)
    → (year : ℕ) → AllStandFor (year_in place) entry year rows
unfolding AllStandFor
each_year place entry rows all year r has is =
    let limits = within_limits 2000 2199 (column r place) year is in
    let low = limits.0 in
    let high = limits.1 in
    let same : year ≡ 2000 + (year - 2000) = omega (arith, low) in
    all (year - 2000) (omega (arith, low, high)) r has (subst (λ y. year_in place r ≡ Some y) same is)

pub all_years : (trees : Trees) → ((k : ℕ) → k < 200 → IsPlanTaken (2000 + k) trees) → ArePlansTaken trees
all_years trees all year = record {
  nodes = each_year 1 node_in (trees table_of_nodes.tree) (λ k h. (all k h).nodes) year;
  places = each_year 1 place_in_row (trees table_of_plan_items.tree) (λ k h. (all k h).places) year;
  references = each_year 0 reference_month_in_row (trees table_of_plan_refs.tree) (λ k h. (all k h).references) year;
}
