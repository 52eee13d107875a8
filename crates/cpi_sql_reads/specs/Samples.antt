-- The cached samples of a month, and the rows that they are made from.
use Rattle.std.specs.Prelude.{◌≤◌, ◌-◌, ⊤, ℕ, IsSome, Option, Some, None}
use Rattle.sqlite.specs.Tree.{Trees}
use Rattle.cpi_codes.specs.Month.{year_of}
use Rattle.cpi_rows.specs.Keyed.{row_by_number}
use Rattle.cpi_release.specs.CachedSamples.{AreGroupsOf, Samples}
use Rattle.cpi_release.specs.Releases.{link_month}
use Rattle.cpi_store.specs.Sources.{office_sources}
use Rattle.cpi_sql_rows.specs.Lists.{carried_in_row, frozen_in, office_in}
use Rattle.cpi_sql_rows.specs.Tables.{table_of_carried_2, table_of_frozen_2}
use Rattle.cpi_sql_reads.specs.Headers.{LatestStands}

-- each row that the samples of a month are made from stands for something: the carried prices and the frozen quotes of
-- its link month, and the carried prices of the month before
pub record SamplesStand (month : ℕ) (trees : Trees) : Type 0 where
  pub link_carried : LatestStands carried_in_row table_of_carried_2.tree (link_month month) trees
  pub link_frozen : LatestStands frozen_in table_of_frozen_2.tree (link_month month) trees
  pub last_carried : LatestStands carried_in_row table_of_carried_2.tree (month - 1) trees

-- they do if the month has samples: it is not of the first year, and its year has a plan
abbrev pub SamplesTaken : ℕ → Trees → Type 0
SamplesTaken month trees =
    12 ≤ month → IsSome (row_by_number (λ p. p.year) (year_of month) (office_in trees).plans) → SamplesStand month trees

-- the cached samples, if there are any, are those of the tables, whose rows the types take
abbrev pub AreSamplesOf : Trees → Option Samples → Type 0
AreSamplesOf trees None = ⊤
AreSamplesOf trees (Some k) =
    AreGroupsOf (office_sources (office_in trees)) k.month k.groups × SamplesTaken k.month trees
