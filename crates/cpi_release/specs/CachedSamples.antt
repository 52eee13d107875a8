-- The sources of a month's samples, and when samples that are kept are its own.
use Rattle.std.specs.Prelude.{◌≡◌, ℕ, ◌≤◌, ⊤, true, List, Option, Some, None, option_map}
use Rattle.cpi_codes.specs.Month.{year_of}
use Rattle.cpi_rows.specs.Keyed.{row_by_number}
use Rattle.cpi_plan.specs.Plan.{Plan}
use Rattle.cpi_index.specs.Frozen.{Frozen}
use Rattle.cpi_index.specs.Series.{are_by_series, frozen_serial}
use Rattle.std.specs.Global.{Vec}
use Rattle.cpi_index.specs.Row.{Row}
use Rattle.cpi_index.specs.MonthGroups.{AreGroups}
use Rattle.cpi_release.specs.Releases.{rows_of_bases}
use Rattle.cpi_release.specs.Releasing.{AreInOrder}
use Rattle.cpi_release.specs.GroupCalls.{Sources}
use Rattle.cpi_release.specs.declared.release.Release.{Release}

-- the sources, and how often a read failed
pub record CachedGroups : Type 0 where
  pub plans : List Plan
  pub releases : List Release
  pub frozen : List Frozen
  pub failures : ℕ

abbrev pub sources_of : List Plan → List Release → List Frozen → Sources
sources_of plans releases frozen = record { plans = plans; releases = releases; quotes = λ _. frozen }

-- releases in their order, and quotes by series
abbrev pub IsFit : Sources → Type 0
IsFit s = AreInOrder s.releases × ((month : ℕ) → are_by_series frozen_serial (s.quotes month) ≡ true)

-- the source of what a holder holds
abbrev pub sources_in : CachedGroups → Sources
sources_in k = sources_of k.plans k.releases k.frozen

-- lists of rows that are the month's samples
abbrev pub AreGroupsOf : Sources → ℕ → List (Vec Row) → Type 0
AreGroupsOf s month groups =
    (p : Plan) → IsFit s → 12 ≤ month → row_by_number (λ p. p.year) (year_of month) s.plans ≡ Some p →
    AreGroups p (rows_of_bases p s.releases month (s.quotes month)) groups

-- the samples of a month: one list of rows for each weight of the plan of its year
pub record Samples : Type 0 where
  pub month : ℕ
  pub groups : List (Vec Row)

-- the month whose samples are kept, if there is one
abbrev pub kept_month : Option Samples → Option ℕ
kept_month kept = option_map (λ k. k.month) kept

-- samples that are kept are those of their month
abbrev pub AreSamplesCached : Sources → Option Samples → Type 0
AreSamplesCached s None = ⊤
AreSamplesCached s (Some k) = AreGroupsOf s k.month k.groups
