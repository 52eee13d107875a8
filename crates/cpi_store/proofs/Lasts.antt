-- How long a series lasts: the greatest last month among its assignments.
use Rattle.std.proofs.Common.{◌≡◌, ℕ, ◌≤◌, Bool, true, false, List, [], ◌∷◌, ◌++◌, arith, subst, refl}
use Rattle.std.specs.Prelude.{max}
use Rattle.std.specs.List.{AllByRecursion, Contains}
use Rattle.std.proofs.lemmas.Bool.{eq-eqb}
use Rattle.std.proofs.lemmas.List.Elements.{All-from_recursion}
use Rattle.cpi_codes.specs.declared.series.SeriesId.{SeriesId}
use Rattle.cpi_store.specs.declared.given.Given.{Given}
use Rattle.cpi_store.specs.Series.{last_of_series, same_series}

pub same_series_own : (s : SeriesId) → same_series s s ≡ true
same_series_own s = rw (eq-eqb s.collector s.collector refl, eq-eqb s.slot s.slot refl) refl

-- of more assignments, the later one of both
pub last_of_series_append : (s : SeriesId) (xs ys : List (ℕ × Given)) →
    last_of_series s (xs ++ ys) ≡ max (last_of_series s xs) (last_of_series s ys)
last_of_series_append s [] ys = omega arith
last_of_series_append s (x ∷ xs) ys = cases (same_series x.1.series s) refl (last_of_series_append s xs ys)
  where
    cases : (t : Bool) → same_series x.1.series s ≡ t → last_of_series s (xs ++ ys) ≡ max (last_of_series s xs)
        (last_of_series s ys) → last_of_series s (x ∷ xs ++ ys) ≡ max (last_of_series s (x ∷ xs)) (last_of_series s ys)
    cases true e rest = rw e (omega (arith, rest))
    cases false e rest = rw e rest

-- one more assignment ends no series sooner
pub last_of_series_more : (s : SeriesId) (x : ℕ × Given) (xs : List (ℕ × Given)) →
    last_of_series s xs ≤ last_of_series s (x ∷ xs)
last_of_series_more s x xs = cases (same_series x.1.series s) refl
  where
    cases : (t : Bool) → same_series x.1.series s ≡ t → last_of_series s xs ≤ last_of_series s (x ∷ xs)
    cases true e = rw e (omega arith)
    cases false e = rw e (omega arith)

-- an assignment among those ends no later than its series
abbrev pub IsCovered : List (ℕ × Given) → ℕ × Given → Type 0
IsCovered given row = row.1.assignment.last_month ≤ last_of_series row.1.series given

covered_more : (x : ℕ × Given) (given rows : List (ℕ × Given)) → AllByRecursion (IsCovered given) rows →
    AllByRecursion (IsCovered (x ∷ given)) rows
covered_more x given [] all = tt
covered_more x given (r ∷ rows) all =
    (let more = last_of_series_more r.1.series x given in omega (arith, more, all.0), covered_more x given rows all.1)

pub last_of_series_covers : (given : List (ℕ × Given)) → AllByRecursion (IsCovered given) given
last_of_series_covers [] = tt
last_of_series_covers (x ∷ given) = (
  rw (same_series_own x.1.series) (omega arith),
  covered_more x given given (last_of_series_covers given),
)

-- the same of any one of them
pub last_of_series_covers_one : (given : List (ℕ × Given)) (row : ℕ × Given) → Contains given row → IsCovered given row
last_of_series_covers_one given row has = subst (IsCovered given) has.2
    (All-from_recursion (IsCovered given) given (last_of_series_covers given) has.0 row has.1)
