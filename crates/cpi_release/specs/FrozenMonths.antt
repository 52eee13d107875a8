-- Which months were frozen, which may be frozen next, and by which plan.
use Rattle.std.specs.Prelude.{ℕ, ◌+◌, ◌%◌, ◌==◌, ◌&&◌, ◌||◌, Bool, false, not, nat_lt, List, [], ◌∷◌, map}
use Rattle.std.specs.Prelude.{Option, None, Some, is_none, if◌then◌else◌}
use Rattle.std.specs.List.{list_any}
use Rattle.std.specs.declared.cmp.Ordering.{Ordering}
use Rattle.std.specs.Ordering.{nat_cmp, ordering_then}
use Rattle.cpi_codes.specs.Month.{year_of}
use Rattle.cpi_rows.specs.Keyed.{row_by_number}
use Rattle.cpi_plan.specs.Plan.{Plan}
use Rattle.cpi_release.specs.declared.release.Release.{Release}
use Rattle.cpi_release.specs.declared.frozen_month.FrozenMonth.{FrozenMonth}

-- the key of releases and of their tables: month, and then revision
abbrev pub ReleaseKey : Type 0
ReleaseKey = ℕ × ℕ

abbrev pub release_cmp : ReleaseKey → ReleaseKey → Ordering
release_cmp a b = ordering_then (nat_cmp a.0 b.0) (nat_cmp a.1 b.1)

abbrev pub release_key : Release → ReleaseKey
release_key r = (r.month, r.revision)

abbrev pub frozen_month : Release → FrozenMonth
frozen_month r = record { month = r.month; revision = r.revision; publishes = r.publishes }

abbrev pub frozen_months : List Release → List FrozenMonth
frozen_months releases = map frozen_month releases

abbrev pub is_month_frozen : ℕ → List FrozenMonth → Bool
is_month_frozen month frozen = list_any (λ f. f.month == month) frozen

-- whether a month of the year was frozen
abbrev pub has_year_frozen : ℕ → List FrozenMonth → Bool
has_year_frozen year frozen = list_any (λ f. year_of f.month == year) frozen

-- whether an earlier month is among those of a list: only the first release has none
abbrev pub is_after_any : {X : Type 0} → (X → ℕ) → List X → ℕ → Bool
is_after_any month_of xs month = list_any (λ x. nat_lt (month_of x) month) xs

-- whether an earlier month was frozen
abbrev pub is_past_first_month : ℕ → List FrozenMonth → Bool
is_past_first_month month frozen = is_after_any (λ f. f.month) frozen month

-- the last frozen month, in its latest revision
abbrev pub last_frozen : List FrozenMonth → Option FrozenMonth
last_frozen [] = None
last_frozen (last ∷ []) = Some last
last_frozen (_ ∷ later ∷ frozen) = last_frozen (later ∷ frozen)

-- ---- the months that may be frozen next
-- the last one again, or the month after it; a December if there is none
abbrev pub follows : ℕ → Option FrozenMonth → Bool
follows month None = month % 12 == 11
follows month (Some last) = last.month == month || month == last.month + 1

abbrev pub is_next_month : ℕ → List FrozenMonth → Bool
is_next_month month frozen = follows month (last_frozen frozen)

-- the revision in which such a month is frozen: one more than the last one has, if it is that one, else the first
abbrev pub revision_after : ℕ → Option FrozenMonth → ℕ
revision_after month None = 1
revision_after month (Some last) = if last.month == month then last.revision + 1 else 1

abbrev pub revision_to_give : ℕ → List FrozenMonth → ℕ
revision_to_give month frozen = revision_after month (last_frozen frozen)

-- ---- the month that may be frozen again
-- the last one, with a table that is published later than that of its latest revision, of which it has fewer than nine
abbrev pub is_month_reopened : ℕ → Option ℕ → Option FrozenMonth → Bool
is_month_reopened month publishes None = false
is_month_reopened month None (Some last) = false
is_month_reopened month (Some publishes) (Some last) =
    last.month == month && nat_lt last.revision 9 && nat_lt last.publishes publishes

abbrev pub keeps_frozen : ℕ → Option ℕ → List FrozenMonth → Bool
keeps_frozen month publishes frozen = is_month_frozen month frozen && not
    (is_month_reopened month publishes (last_frozen frozen))

-- ---- plans
-- the plan by which a month is released: that of its year, and none for the first release
abbrev pub plan_by : {X : Type 0} → (X → ℕ) → List Plan → List X → ℕ → Option Plan
plan_by month_of plans xs month =
    if is_after_any month_of xs month then row_by_number (λ y. y.year) (year_of month) plans else None

abbrev pub plan_for : List Plan → List FrozenMonth → ℕ → Option Plan
plan_for plans frozen month = plan_by (λ f. f.month) plans frozen month

abbrev pub lacks_plan : List Plan → List FrozenMonth → ℕ → Bool
lacks_plan plans frozen month = is_past_first_month month frozen && is_none
    (row_by_number (λ y. y.year) (year_of month) plans)
