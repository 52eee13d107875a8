-- Frozen lists in the order of the numbers of their series, and one item and one last month for each series.
use Rattle.std.proofs.Common.{◌≡◌, ℕ, ◌+◌, ◌≤◌, ◌<◌, true, List, [], ◌∷◌, ◌++◌, map, Some, refl, sym, ap, ◌∙◌, subst}
use Rattle.std.proofs.Common.{arith}
use Rattle.std.specs.declared.cmp.Ordering.{Ordering}
use Rattle.std.specs.declared.cmp.Ordering.TheVariants.{Less, Equal, Greater}
use Rattle.std.specs.Ordering.{nat_cmp, ordering_then}
use Rattle.std.specs.List.{AllByRecursion, Contains}
use Rattle.std.specs.List.Sorted.{IsStrictlySortedBy}
use Rattle.std.proofs.lemmas.Bool.{le-leb}
use Rattle.std.proofs.lemmas.Cmp.{ranked}
use Rattle.cpi_rows.specs.Keyed.{IsInOrder, row_by_number}
use Rattle.cpi_rows.specs.Held.{held_by}
use Rattle.cpi_codes.specs.declared.series.SeriesId.{SeriesId}
use Rattle.cpi_index.specs.Frozen.{Frozen}
use Rattle.cpi_index.specs.Series.{serial, frozen_serial, rises_from, are_by_series}
use Rattle.std.proofs.lemmas.List.Elements.{All-from_recursion}
use Rattle.cpi_rows.proofs.Found.{at_key}
use Rattle.cpi_codes.specs.declared.limits.TheConstants.{GREATEST_SLOT}
use Rattle.cpi_release.specs.Releasing.{AreConsistent, all_frozen}
use Rattle.cpi_release.specs.declared.release.Release.{Release}
use Rattle.cpi_store.specs.declared.given.Given.{Given}
use Rattle.cpi_store.specs.Series.{series_cmp, last_of_series}
use Rattle.cpi_store.specs.FrozenLists.{IsOfSeries, HasFrozenList}
use Rattle.cpi_store.specs.Sound.{IsWellMade}
use Rattle.cpi_store.proofs.Slots.{all_of_found}

-- a series within the limits
abbrev pub IsSeries : SeriesId → Type 0
IsSeries s = (1 ≤ s.collector) × (1 ≤ s.slot) × (s.slot ≤ GREATEST_SLOT)

-- the numbers rise with the series
serial_rises : (s t : SeriesId) → IsSeries s → IsSeries t → series_cmp s t ≡ Less → serial s < serial t
serial_rises s t a b less = cases (nat_cmp s.collector t.collector) refl less
  where
    cases : (w : Ordering) → nat_cmp s.collector t.collector ≡ w → ordering_then w (nat_cmp s.slot t.slot) ≡ Less →
        serial s < serial t
    cases Less e less = let lower : s.collector < t.collector = ranked s.collector t.collector Less (sym e) in
        omega (arith, lower, a.0, a.1, a.2, b.0, b.1, b.2)
    cases Equal e less =
        let same : s.collector ≡ t.collector = ranked s.collector t.collector Equal (sym e) in
        let lower : s.slot < t.slot = ranked s.slot t.slot Less (sym less) in
        omega (arith, same, lower, a.0, a.1, a.2, b.0, b.1, b.2)
    cases Greater e less = let no : Greater ≡ Less = less in cc

all_rise : (n : ℕ) (fs : List Frozen) → AllByRecursion (λ f. n ≤ frozen_serial f) fs →
    AllByRecursion (λ f. IsSeries f.series) fs → IsInOrder series_cmp (λ f. f.series) fs →
    rises_from n (map frozen_serial fs) ≡ true
unfolding IsStrictlySortedBy
all_rise n [] low all sorted = refl
all_rise n (f ∷ fs) low all sorted = rw (le-leb n (frozen_serial f) low.0)
    (all_rise (frozen_serial f + 1) fs (above fs sorted.0 all.1) all.1 sorted.1)
  where
    above : (gs : List Frozen) → AllByRecursion (λ g. series_cmp f.series g.series ≡ Less) gs →
        AllByRecursion (λ g. IsSeries g.series) gs → AllByRecursion (λ g. frozen_serial f + 1 ≤ frozen_serial g) gs
    above [] below all' = tt
    above (g ∷ gs) below all' = (
      let less = serial_rises f.series g.series all.0 all'.0 below.0 in
          omega (arith, less),
      above gs below.1 all'.1,
    )

any_low : (fs : List Frozen) → AllByRecursion (λ f. 0 ≤ frozen_serial f) fs
any_low [] = tt
any_low (f ∷ fs) = (omega arith, any_low fs)

-- in the order of series, so in the order of their numbers
pub by_serial : (fs : List Frozen) → AllByRecursion (λ f. IsSeries f.series) fs →
    IsInOrder series_cmp (λ f. f.series) fs → are_by_series frozen_serial fs ≡ true
by_serial fs all sorted = all_rise 0 fs (any_low fs) all sorted

-- ---- the series of a frozen quote is within the limits

abbrev pub AreMade : List (ℕ × Given) → Type 0
AreMade given = AllByRecursion (λ row. IsWellMade (row.0, row.1.assignment)) given

series_of_frozen : (given : List (ℕ × Given)) → AreMade given → (f : Frozen) → IsOfSeries given f → IsSeries f.series
series_of_frozen given all f of =
    let made = all_of_found (λ g. g.assignment.slot) (λ row. IsWellMade (row.0, row.1.assignment)) f.series.collector
    f.series.slot of.0 given all of.1 in
    let key : of.0.assignment.slot ≡ f.series.slot = at_key (λ (g : Given). g.assignment.slot) f.series.slot of.0
    (held_by f.series.collector given) of.1 in
    (made.collector, subst (λ n. 1 ≤ n) key made.slot.0, subst (λ n. n ≤ GREATEST_SLOT) key made.slot.1)

pub all_series : (given : List (ℕ × Given)) → AreMade given → (fs : List Frozen) →
    AllByRecursion (IsOfSeries given) fs → AllByRecursion (λ f. IsSeries f.series) fs
all_series given all [] of = tt
all_series given all (f ∷ fs) of = (series_of_frozen given all f of.0, all_series given all fs of.1)

pub frozen_by_serial : (given : List (ℕ × Given)) → AreMade given → (rs : List Release) →
    AllByRecursion (HasFrozenList given) rs → AllByRecursion
    (λ (r : Release). are_by_series frozen_serial r.frozen ≡ true) rs
frozen_by_serial given all [] of = tt
frozen_by_serial given all (r ∷ rs) of = (
  by_serial r.frozen
      (all_series given all r.frozen of.0.of_series) of.0.in_order,
  frozen_by_serial given all rs of.1,
)

-- ---- one item and one last month for each series

series_of_serial : (s t : SeriesId) → IsSeries s → IsSeries t → serial s ≡ serial t → s ≡ t
series_of_serial s t a b e = cases (nat_cmp s.collector t.collector) refl
  where
    slots : s.collector ≡ t.collector → s ≡ t
    slots same = let slot : s.slot ≡ t.slot = omega (arith, same, e, a.0, a.1, a.2, b.0, b.1, b.2) in
        λ n. record { collector = same n; slot = slot n }

    cases : (w : Ordering) → nat_cmp s.collector t.collector ≡ w → s ≡ t
    cases Less f = let lower : s.collector < t.collector = ranked s.collector t.collector Less (sym f) in
        absurd (omega (arith, lower, e, a.0, a.1, a.2, b.0, b.1, b.2))
    cases Equal f = slots (ranked s.collector t.collector Equal (sym f))
    cases Greater f = let lower : t.collector < s.collector = ranked s.collector t.collector Greater (sym f) in
        absurd (omega (arith, lower, e, a.0, a.1, a.2, b.0, b.1, b.2))

all_of : (given : List (ℕ × Given)) (rs : List Release) → AllByRecursion (HasFrozenList given) rs →
    AllByRecursion (IsOfSeries given) (all_frozen rs)
all_of given [] of = tt
all_of given (r ∷ rs) of = joined r.frozen of.0.of_series (all_of given rs of.1)
  where
    joined : (fs : List Frozen) → AllByRecursion (IsOfSeries given) fs →
        AllByRecursion (IsOfSeries given) (all_frozen rs) → AllByRecursion (IsOfSeries given) (fs ++ all_frozen rs)
    joined [] all rest = rest
    joined (f ∷ fs) all rest = (all.0, joined fs all.1 rest)

contained : (P : Frozen → Type 0) (fs : List Frozen) (f : Frozen) → AllByRecursion P fs → Contains fs f → P f
contained P fs f all has = subst P has.2 (All-from_recursion P fs all has.0 f has.1)

pub consistent : (given : List (ℕ × Given)) → AreMade given → (rs : List Release) →
    AllByRecursion (HasFrozenList given) rs → AreConsistent (all_frozen rs)
consistent given all rs of q r in_q in_r e =
    let one = contained (IsOfSeries given) (all_frozen rs) q (all_of given rs of) in_q in
    let two = contained (IsOfSeries given) (all_frozen rs) r (all_of given rs of) in_r in
    let same : q.series ≡ r.series = series_of_serial q.series r.series (series_of_frozen given all q one)
    (series_of_frozen given all r two) e in
    let found : Some one.0 ≡ Some two.0 = sym one.1
    ∙ ap (λ (s : SeriesId). row_by_number (λ (g : Given). g.assignment.slot) s.slot (held_by s.collector given)) same
    ∙ two.1 in
    let is : one.0 ≡ two.0 = cc in (
      one.2 ∙ ap (λ (g : Given). g.assignment.item) is ∙ sym two.2,
      one.3 ∙ ap (λ s. last_of_series s given) same
          ∙ sym two.3,
    )
