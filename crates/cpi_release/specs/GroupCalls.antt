-- The sources of groups, and when they can be asked for.
use Rattle.std.specs.Prelude.{◌≡◌, ℕ, ◌+◌, List, [], Some, None}
use Rattle.cpi_codes.specs.Month.{year_of}
use Rattle.cpi_codes.specs.declared.codes.Code.{Code}
use Rattle.cpi_rows.specs.Keyed.{row_by_number}
use Rattle.cpi_plan.specs.Plan.{Plan}
use Rattle.cpi_index.specs.Frozen.{Frozen}
use Rattle.cpi_index.specs.Row.{Row}
use Rattle.cpi_index.specs.Month.{sample_rows}
use Rattle.cpi_release.specs.Releases.{rows_of_bases, latest_release}
use Rattle.cpi_release.specs.declared.release.Release.{Release}

-- the sources of groups: the plans by year, the releases by month, and the quotes of each month as they are
pub record Sources : Type 0 where
  pub plans : List Plan
  pub releases : List Release
  pub quotes : ℕ → List Frozen

-- the sample of an aggregate in a month, by the plan of the month's year
abbrev pub group_of : Sources → ℕ → Code → List Row
group_of s month code = elim (row_by_number (λ p. p.year) (year_of month) s.plans) [
  | None ↦ []
  | Some p ↦ sample_rows p code (rows_of_bases p s.releases month (s.quotes month))
]

-- a month whose groups can be asked for: the one before it was frozen
abbrev pub IsAfterFrozen : Sources → ℕ → Type 0
IsAfterFrozen s month = (before : ℕ) × (before + 1 ≡ month) × (r : Release) ×
    (latest_release s.releases before ≡ Some r)
