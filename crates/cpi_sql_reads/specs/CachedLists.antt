-- The cached lists of releases: frozen quotes, carried prices, and tables.
use Rattle.std.specs.Prelude.{◌≡◌, Some}
use Rattle.sqlite.specs.Tree.{Trees}
use Rattle.cpi_rows.specs.Keyed.{row_at}
use Rattle.cpi_release.specs.FrozenMonths.{release_cmp, release_key}
use Rattle.cpi_release.specs.declared.release.Release.{Release}
use Rattle.cpi_sql_rows.specs.HeldTables.{carried_table, frozen_table, level_table}
use Rattle.cpi_sql_rows.specs.Lists.{carried_in_row, frozen_in, level_in_row, release_number, releases_in}
use Rattle.cpi_sql_rows.specs.Shelf.{AllStandOf}
use Rattle.cpi_sql_rows.specs.Tables.{table_of_carried_2, table_of_frozen_2, table_of_levels_2}
use Rattle.cpi_sql_reads.specs.ReleaseLists.{AreListsOf}
use Rattle.cpi_sql_reads.specs.declared.cached_lists.CachedLists.{CachedLists}

-- each of the cached lists is that of its release
pub record AreListsCached (trees : Trees) (lists : CachedLists) : Type 0 where
  pub frozen : AreListsOf frozen_table (λ r. r.frozen) trees lists.frozen.items
  pub carried : AreListsOf carried_table (λ r. r.carried) trees lists.carried.items
  pub levels : AreListsOf level_table (λ r. r.levels) trees lists.levels.items

-- the release is there, and the types take each row of its lists
pub record IsThere (trees : Trees) (r : Release) : Type 0 where
  pub release : row_at release_cmp release_key (release_key r) (releases_in trees) ≡ Some r
  pub frozen : AllStandOf frozen_in (release_number r.month r.revision) (trees table_of_frozen_2.tree)
  pub carried : AllStandOf carried_in_row (release_number r.month r.revision) (trees table_of_carried_2.tree)
  pub levels : AllStandOf level_in_row (release_number r.month r.revision) (trees table_of_levels_2.tree)
