-- The release of a freeze, and the histories that are sound.
use Rattle.std.specs.Prelude.{◌≡◌, ◌⊎◌, ℕ, ◌+◌, ◌<◌, ◌%◌, Bool, true, List, [], ◌∷◌, ◌++◌, length, map, fold, Contains}
use Rattle.std.specs.Prelude.{Option, Some, None, IsSome, slice_index_or}
use Rattle.std.specs.Option.{option_or}
use Rattle.std.specs.Ordering.{nat_cmp}
use Rattle.cpi_codes.specs.Month.{year_of}
use Rattle.cpi_codes.specs.CodeOrder.{code_cmp}
use Rattle.cpi_codes.specs.declared.codes.Code.{Code}
use Rattle.cpi_rows.specs.Keyed.{row_by_number, IsInOrder}
use Rattle.cpi_plan.specs.Plan.{Plan}
use Rattle.cpi_index.specs.Frozen.{Frozen}
use Rattle.cpi_index.specs.Row.{Row}
use Rattle.cpi_index.specs.Series.{are_by_series, carried_serial, frozen_serial}
use Rattle.cpi_index.specs.Month.{carried_in_month}
use Rattle.cpi_index.specs.declared.fault.IndexFault.{IndexFault}
use Rattle.cpi_release.specs.FrozenMonths.{is_after_any, plan_by}
use Rattle.cpi_release.specs.Releases.{latest_release, rows_of_bases, plan_in_use, weights_fault_in}
use Rattle.cpi_release.specs.MonthTable.{table_of, table_fault}
use Rattle.cpi_release.specs.declared.level.Level.{Level}
use Rattle.cpi_release.specs.declared.release.Release.{Release}

-- the frozen part of a release
pub record Freeze : Type 0 where
  pub month : ℕ
  pub revision : ℕ
  pub frozen_at : ℕ
  pub publishes : ℕ
  pub frozen : List Frozen
  pub carry : List Code

abbrev pub freeze_of : Release → Freeze
freeze_of r = record {
  month = r.month;
  revision = r.revision;
  frozen_at = r.frozen_at;
  publishes = r.publishes;
  frozen = r.frozen;
  carry = r.carry;
}

-- whether an earlier month was frozen
abbrev pub has_an_earlier : List Release → ℕ → Bool
has_an_earlier releases month = is_after_any (λ r. r.month) releases month

-- the plan by which a month is released
abbrev pub plan_in : List Plan → List Release → ℕ → Option Plan
plan_in plans releases month = plan_by (λ r. r.month) plans releases month

-- the table of a month, by the weights in use
abbrev pub table_in : Plan → List Release → ℕ → List Row → List Level
table_in plan releases month rows = table_of (plan_in_use plan releases month) releases month rows

-- the first fault of a month: that of the weights in use, then that of its table
abbrev pub fault_in : Plan → List Release → ℕ → List Code → List Row → Option IndexFault
fault_in plan releases month carry rows =
    option_or (weights_fault_in plan releases month)
    (table_fault (plan_in_use plan releases month) releases month carry rows)

-- the release of what is frozen; without a plan it has no carried prices and no rows
abbrev pub release_of_month : Option Plan → List Release → Freeze → Release
release_of_month plan releases x = record {
  month = x.month;
  revision = x.revision;
  frozen_at = x.frozen_at;
  publishes = x.publishes;
  frozen = x.frozen;
  carry = x.carry;
  carried = elim plan [ None ↦ [] | Some p ↦ carried_in_month p (rows_of_bases p releases x.month x.frozen) ];
  levels = elim plan [ None ↦ [] | Some p ↦ table_in p releases x.month (rows_of_bases p releases x.month x.frozen) ];
}

-- why nothing is released, if so: the first fault of the month; the first release has none
abbrev pub fault_of : Option Plan → List Release → Freeze → Option IndexFault
fault_of None releases x = None
fault_of (Some p) releases x = fault_in p releases x.month x.carry (rows_of_bases p releases x.month x.frozen)

-- each release as it is made after those before it
abbrev pub all_released : List Plan → List Freeze → List Release
all_released plans xs = fold (λ done x. done ++ release_of_month (plan_in plans done x.month) done x ∷ []) [] xs

-- a series has one item and one last month
abbrev pub AreConsistent : List Frozen → Type 0
AreConsistent quotes = (q r : Frozen) → Contains quotes q → Contains quotes r → frozen_serial q ≡ frozen_serial r →
    (q.item ≡ r.item) × (q.last_month ≡ r.last_month)

abbrev pub all_frozen : List Release → List Frozen
all_frozen [] = []
all_frozen (r ∷ rs) = r.frozen ++ all_frozen rs

-- the first month is a December, and each further one is the one before again, or follows it
pub record AreMonths (months : List ℕ) : Type 0 where
  pub first : (d : ℕ) → 0 < length months → slice_index_or months 0 d % 12 ≡ 11
  pub next : (k : ℕ) (d : ℕ) → k + 1 < length months → (slice_index_or months (k + 1) d ≡ slice_index_or months k d)
      ⊎ (slice_index_or months (k + 1) d ≡ slice_index_or months k d + 1)

-- a release whose lists are in their order
pub record IsOrdered (r : Release) : Type 0 where
  pub frozen : are_by_series frozen_serial r.frozen ≡ true
  pub carried : are_by_series carried_serial r.carried ≡ true
  pub levels : IsInOrder code_cmp (λ l. l.code) r.levels

-- releases that a month can be read from: month follows month from a December, each once or in revisions that follow
-- one another, and the lists of the latest are in their order
pub record AreInOrder (releases : List Release) : Type 0 where
  pub months : AreMonths (map (λ r. r.month) releases)
  pub ordered : (month : ℕ) (r : Release) → latest_release releases month ≡ Some r → IsOrdered r

-- such releases, each with what is released of its frozen quotes after those before it, by the plan of its year
pub record AreSound (plans : List Plan) (releases : List Release) : Type 0 where
  pub years : IsInOrder nat_cmp (λ p. p.year) plans
  pub in_order : AreInOrder releases
  pub planned : (month : ℕ) → IsSome (latest_release releases month) → has_an_earlier releases month ≡ true →
      IsSome (row_by_number (λ p. p.year) (year_of month) plans)
  pub consistent : AreConsistent (all_frozen releases)
  pub computed : releases ≡ all_released plans (map freeze_of releases)
