-- The lists of a release that was stored.
use Rattle.std.proofs.Common.{refl}
use Rattle.sqlite.specs.Tree.{Trees}
use Rattle.cpi_release.specs.declared.release.Release.{Release}
use Rattle.cpi_sql_rows.specs.HeldTables.{carried_table, frozen_table, level_table}
use Rattle.cpi_sql_reads.specs.CachedLists.{IsThere}
use Rattle.cpi_sql_reads.specs.ReleaseLists.{IsListOf}

module _ (trees : Trees) (r : Release) (it : IsThere trees r) where
  pub frozen_is : IsListOf frozen_table (λ (s : Release). s.frozen) trees
      (record { month = r.month; revision = r.revision; rows = r.frozen })
  frozen_is = record { release = r; there = it.release; rows = refl; stand = it.frozen }

  pub carried_is : IsListOf carried_table (λ (s : Release). s.carried) trees
      (record { month = r.month; revision = r.revision; rows = r.carried })
  carried_is = record { release = r; there = it.release; rows = refl; stand = it.carried }

  pub levels_are : IsListOf level_table (λ (s : Release). s.levels) trees
      (record { month = r.month; revision = r.revision; rows = r.levels })
  levels_are = record { release = r; there = it.release; rows = refl; stand = it.levels }
