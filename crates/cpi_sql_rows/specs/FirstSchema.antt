-- The lists of the office that the rows of schema 1 stand for: each row for what its copy in schema 2 does, which has
-- the slot's own series, no copied price and revision 1. No plan has a reference month.
use Rattle.std.specs.Prelude.{List, [], map}
use Rattle.std.specs.Ordering.{nat_cmp}
use Rattle.sqlite.specs.Tree.{Trees}
use Rattle.cpi_codes.specs.CodeOrder.{code_cmp}
use Rattle.cpi_rows.specs.Held.{held_cmp, held_key}
use Rattle.cpi_index.specs.Series.{frozen_serial, carried_serial}
use Rattle.cpi_release.specs.FrozenMonths.{release_cmp}
use Rattle.cpi_release.specs.declared.release.Release.{Release}
use Rattle.cpi_store.specs.Office.{Office}
use Rattle.cpi_sql_rows.specs.Copies.{assignment_copy, header_copy, frozen_copy, carried_copy, level_copy}
use Rattle.cpi_sql_rows.specs.Lists.{rows_in_key_order, assignment_in_row, quotes_in, header_in, header_key, frozen_in}
use Rattle.cpi_sql_rows.specs.Lists.{carried_in_row}
use Rattle.cpi_sql_rows.specs.Lists.{level_in_row, release_from, office_in, plans_of, years, nodes_in, places_in}
use Rattle.cpi_sql_rows.specs.Tables.{table_of_assignments, table_of_carried, table_of_frozen, table_of_levels}
use Rattle.cpi_sql_rows.specs.Tables.{table_of_nodes, table_of_plan_items, table_of_quotes, table_of_releases}

-- the releases of schema 1
unfoldable pub first_releases_in : Trees → List Release
first_releases_in trees =
    map (release_from
    (rows_in_key_order (held_cmp nat_cmp) (held_key frozen_serial) (λ r. frozen_in (frozen_copy r))
    (trees table_of_frozen.tree))
    (rows_in_key_order (held_cmp nat_cmp) (held_key carried_serial) (λ r. carried_in_row (carried_copy r))
    (trees table_of_carried.tree))
    (rows_in_key_order (held_cmp code_cmp) (held_key (λ l. l.code)) (λ r. level_in_row (level_copy r))
    (trees table_of_levels.tree)))
    (rows_in_key_order release_cmp header_key (λ r. header_in (header_copy r)) (trees table_of_releases.tree))

-- the lists of the tables that stay are read as ever
abbrev pub first_office_in : Trees → Office
first_office_in trees = record (office_in trees) {
  assignments =
      rows_in_key_order (held_cmp nat_cmp) (held_key (λ g. g.assignment.slot))
      (λ r. assignment_in_row (assignment_copy r))
      (trees table_of_assignments.tree);
  quotes = quotes_in (trees table_of_quotes.tree);
  releases = first_releases_in trees;
  plans = plans_of (years 200) (nodes_in (trees table_of_nodes.tree)) (places_in (trees table_of_plan_items.tree)) [];
}
