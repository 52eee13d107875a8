-- Of rows in order, the slots that took a series over say with their assignments what all slots were given.
use Rattle.std.proofs.Common.{◌≡◌, ◌≢◌, ℕ, true, false, List, [], ◌∷◌, map, None, Option, refl, sym, ap, ◌∙◌}
use Rattle.std.proofs.Common.{inl, inr}
use Rattle.std.specs.Prelude.{◌⊎◌}
use Rattle.std.specs.declared.cmp.Ordering.TheVariants.{Less, Greater}
use Rattle.std.specs.Ordering.{nat_cmp, is_eq, ordering_reverse}
use Rattle.std.specs.List.{AllByRecursion, list_any}
use Rattle.std.specs.List.Sorted.{IsStrictlySortedBy}
use Rattle.std.proofs.lemmas.Bool.{eq-eqb}
use Rattle.std.proofs.lemmas.Cmp.{tied_itself}
use Rattle.cpi_rows.specs.Keyed.{IsInOrder, row_at}
use Rattle.cpi_rows.specs.Held.{held_cmp, held_key}
use Rattle.cpi_rows.proofs.Truth.{or_of_second}
use Rattle.cpi_store.proofs.GivenRows.{given_total}
use Rattle.cpi_codes.specs.declared.series.SeriesId.{SeriesId}
use Rattle.cpi_store.specs.declared.given.Given.{Given}
use Rattle.cpi_store.specs.declared.taken_over.TakenOver.{TakenOver}
use Rattle.cpi_store.specs.Holders.{IsGiven}
use Rattle.cpi_store.specs.Loading.{taken_rows, without_series}
use Rattle.cpi_store.specs.Series.{given_in, own_series, same_series, series_named_in, series_or}
use Rattle.cpi_store.proofs.Changes.{same_series_tells}
use Rattle.cpi_store.proofs.GivenSlots.{given_after, has_slot, is_of, taken_key}

abbrev Row : Type 0
Row = ℕ × Given

abbrev key_of : Row → ℕ × ℕ
key_of row = (row.0, row.1.assignment.slot)

abbrev IsSorted : List Row → Type 0
IsSorted rows = IsInOrder (held_cmp nat_cmp) (held_key (λ g. g.assignment.slot)) rows

abbrev AreAbove : ℕ × ℕ → List Row → Type 0
AreAbove key rows = AllByRecursion (λ row. held_cmp nat_cmp key (key_of row) ≡ Less) rows

abbrev TookAbove : ℕ × ℕ → List TakenOver → Type 0
TookAbove key taken = AllByRecursion (λ t. held_cmp nat_cmp key (taken_key t) ≡ Less) taken

abbrev found_in : ℕ × ℕ → List TakenOver → Option TakenOver
found_in key taken = row_at (held_cmp nat_cmp) taken_key key taken

abbrev named_by : Row → SeriesId
named_by row = own_series row.0 row.1.assignment.slot

-- a slot names its own series, or it took one over
abbrev Names : Row → Type 0
Names row =
    ((same_series row.1.series (named_by row) ≡ true) × (row.1.series ≡ named_by row))
    ⊎ ((same_series row.1.series (named_by row) ≡ false) × (row.1.series ≢ named_by row))

names : (row : Row) → Names row
names row = same_series_tells row.1.series (named_by row)

apart : (key : ℕ × ℕ) (row : Row) → held_cmp nat_cmp key (key_of row) ≡ Less
    → is_eq (held_cmp nat_cmp (key_of row) key) ≡ false
apart key row less =
    let greater : held_cmp nat_cmp (key_of row) key ≡ Greater =
    given_total.antisymm (key_of row) key ∙ ap ordering_reverse less in
    ap is_eq greater

-- a slot that another row is of is found where it was before
passed_by : (key : ℕ × ℕ) (row : Row) (rows : List Row) → is_eq (held_cmp nat_cmp (key_of row) key) ≡ false
    → found_in key (taken_rows (row ∷ rows)) ≡ found_in key (taken_rows rows)
passed_by key row rows other = cases (names row)
  where
    cases : Names row → found_in key (taken_rows (row ∷ rows)) ≡ found_in key (taken_rows rows)
    cases (inl own) = rw own.0 refl
    cases (inr took) = rw (took.0, other) refl

-- a slot below all rows is none of those that took over
none_above : (key : ℕ × ℕ) (rows : List Row) → AreAbove key rows → found_in key (taken_rows rows) ≡ None
none_above key [] all = refl
none_above key (row ∷ rows) all = passed_by key row rows (apart key row all.0) ∙ none_above key rows all.1

-- the first row's series
series_first : (row : Row) (rows : List Row) → AreAbove (key_of row) rows
    → series_named_in (taken_rows (row ∷ rows)) row.0 row.1.assignment.slot ≡ row.1.series
series_first row rows all = cases (names row)
  where
    cases : Names row → series_named_in (taken_rows (row ∷ rows)) row.0 row.1.assignment.slot ≡ row.1.series
    cases (inl own) = rw own.0 (ap (series_or (named_by row)) (none_above (key_of row) rows all) ∙ sym own.1)
    cases (inr took) = rw (took.0, ap is_eq (tied_itself given_total (key_of row))) refl

-- rows with their series as those say that took over
abbrev said_by : List TakenOver → List Row → List Row
said_by taken rows = map (given_in taken) (map without_series rows)

abbrev with_series : Row → SeriesId → Row
with_series row series = (row.0, record { assignment = row.1.assignment; series = series })

-- the first row says nothing of those above it
said_above : (row : Row) (rows ys : List Row) → AreAbove (key_of row) ys
    → said_by (taken_rows (row ∷ rows)) ys ≡ said_by (taken_rows rows) ys
said_above row rows [] all = refl
said_above row rows (y ∷ ys) all =
    let other : is_eq (held_cmp nat_cmp (key_of row) (key_of y)) ≡ false = ap is_eq all.0 in
    ap (λ o. with_series y (series_or (named_by y) o) ∷ said_by (taken_rows (row ∷ rows)) ys)
    (passed_by (key_of y) row rows other)
    ∙ ap (λ zs. given_in (taken_rows rows) (without_series y) ∷ zs) (said_above row rows ys all.1)

pub given_again : (rows : List Row) → IsSorted rows → said_by (taken_rows rows) rows ≡ rows
unfolding IsStrictlySortedBy
given_again [] sorted = refl
given_again (row ∷ rows) sorted =
    ap (λ s. with_series row s ∷ said_by (taken_rows (row ∷ rows)) rows) (series_first row rows sorted.0)
    ∙ ap (λ xs. row ∷ xs) (said_above row rows rows sorted.0 ∙ given_again rows sorted.1)

-- ---- the slots that took over

taken_above : (key : ℕ × ℕ) (rows : List Row) → AreAbove key rows → TookAbove key (taken_rows rows)
taken_above key [] all = tt
taken_above key (row ∷ rows) all = cases (names row) (taken_above key rows all.1)
  where
    cases : Names row → TookAbove key (taken_rows rows) → TookAbove key (taken_rows (row ∷ rows))
    cases (inl own) rest = rw own.0 rest
    cases (inr took) rest = rw took.0 (all.0, rest)

-- they are in the order of the rows
pub taken_sorted : (rows : List Row) → IsSorted rows → IsInOrder (held_cmp nat_cmp) taken_key (taken_rows rows)
unfolding IsStrictlySortedBy
taken_sorted [] sorted = tt
taken_sorted (row ∷ rows) sorted = cases (names row) (taken_sorted rows sorted.1)
  where
    cases : Names row → IsInOrder (held_cmp nat_cmp) taken_key (taken_rows rows)
        → IsInOrder (held_cmp nat_cmp) taken_key (taken_rows (row ∷ rows))
    cases (inl own) rest = rw own.0 rest
    cases (inr took) rest = rw took.0 (taken_above (key_of row) rows sorted.0, rest)

abbrev AreGiven : List Row → List Row → Type 0
AreGiven rows some = AllByRecursion (IsGiven (map without_series rows)) (taken_rows some)

-- each was given
pub taken_are_given : (rows : List Row) → AllByRecursion (IsGiven (map without_series rows)) (taken_rows rows)
taken_are_given [] = tt
taken_are_given (row ∷ rows) =
    cases (names row)
    (given_after (map without_series rows) (map without_series (row ∷ rows))
    (λ c slot is.
    or_of_second (is_of c slot (without_series row)) (list_any (is_of c slot) (map without_series rows)) is)
    (taken_rows rows) (taken_are_given rows))
  where
    cases : Names row → AreGiven (row ∷ rows) rows → AreGiven (row ∷ rows) (row ∷ rows)
    cases (inl own) rest = rw own.0 rest
    cases (inr took) rest =
        let slot = row.1.assignment.slot in
        let here : list_any (is_of row.0 slot) (map without_series (row ∷ rows)) ≡ true =
        rw (eq-eqb row.0 row.0 refl, eq-eqb slot slot refl) refl in
        rw took.0 (has_slot row.0 slot (map without_series (row ∷ rows)) ∙ here, rest)
