-- Quotes by series: all that there are, in the order of their series.
use Rattle.std.proofs.Common.{◌≡◌, ℕ, ◌+◌, ◌<◌, Bool, true, false, List, [], ◌∷◌, length, get_or, refl, sym, ap, ◌∙◌}
use Rattle.std.proofs.Common.{arith}
use Rattle.std.specs.declared.cmp.Ordering.{Ordering}
use Rattle.std.specs.declared.cmp.Ordering.TheVariants.{Less, Equal, Greater}
use Rattle.std.specs.Ordering.{nat_cmp, is_lt, is_gt, is_eq, ordering_then, ordering_reverse}
use Rattle.std.specs.Cmp.{IsTotalOrder}
use Rattle.std.specs.List.{AllByRecursion, IsDistinct}
use Rattle.std.specs.List.Sorted.{IsPermutation, IsSortedByKey, IsStrictlySortedBy}
use Rattle.std.proofs.lemmas.Cmp.{nat_cmp_total, then_total, ranked, tied_itself}
use Rattle.std.proofs.lemmas.List.Sorted.{IsPermutation-refl, IsPermutation-sym, IsPermutation-trans}
use Rattle.std.proofs.lemmas.List.Sorted.{IsPermutation-cons, IsPermutation-middle}
use Rattle.std.proofs.lemmas.Map.Keys.{apart_from_distinct}
use Rattle.cpi_rows.specs.Keyed.{IsInOrder}
use Rattle.cpi_rows.proofs.Rising.{by_key_total, rises_whole}
use Rattle.cpi_rows.proofs.Truth.{less_of_lt}
use Rattle.cpi_plan.proofs.OnceLemmas.{once_from_order}
use Rattle.cpi_plan.proofs.NodeLemmas.{row_moved}
use Rattle.cpi_plan.proofs.SameLemmas.{same_rows}
use Rattle.cpi_codes.specs.declared.series.SeriesId.{SeriesId}
use Rattle.cpi_index.specs.Frozen.{Frozen}
use Rattle.cpi_index.specs.Series.{are_by_series, frozen_serial, serial}
use Rattle.cpi_index.proofs.Rising.{next_above}
use Rattle.cpi_store.specs.Series.{series_cmp, put_by_series, by_series}

pub series_cmp_total : IsTotalOrder series_cmp
series_cmp_total = then_total (by_key_total nat_cmp_total (λ (s : SeriesId). s.collector))
    (by_key_total nat_cmp_total (λ (s : SeriesId). s.slot))

abbrev series : Frozen → SeriesId
series f = f.series

-- ---- they are all there

pub placed_moved : (f : Frozen) (rows : List Frozen) → IsPermutation (f ∷ rows) (put_by_series f rows)
placed_moved f [] = IsPermutation-refl (f ∷ [])
placed_moved f (g ∷ rows) = cases (is_gt (series_cmp f.series g.series)) refl (placed_moved f rows)
  where
    cases : (t : Bool) → is_gt (series_cmp f.series g.series) ≡ t → IsPermutation (f ∷ rows) (put_by_series f rows) →
        IsPermutation (f ∷ g ∷ rows) (put_by_series f (g ∷ rows))
    cases true e rest =
        rw e (IsPermutation-trans (f ∷ g ∷ rows) (g ∷ f ∷ rows) (g ∷ put_by_series f rows)
        (IsPermutation-sym (g ∷ f ∷ rows) (f ∷ g ∷ rows) (IsPermutation-middle (g ∷ []) f rows))
        (IsPermutation-cons g (f ∷ rows) (put_by_series f rows) rest))
    cases false e rest = rw e (IsPermutation-refl (f ∷ g ∷ rows))

pub by_series_moved : (rows : List Frozen) → IsPermutation rows (by_series rows)
by_series_moved [] = IsPermutation-refl []
by_series_moved (f ∷ rows) =
    IsPermutation-trans (f ∷ rows) (f ∷ by_series rows) (put_by_series f (by_series rows))
    (IsPermutation-cons f rows (by_series rows) (by_series_moved rows)) (placed_moved f (by_series rows))

-- ---- they are in order

-- none of these is before the quote
abbrev pub NoneBefore : Frozen → List Frozen → Type 0
NoneBefore f rows = AllByRecursion (λ g. is_gt (series_cmp f.series g.series) ≡ false) rows

abbrev pub NeverFall : List Frozen → Type 0
NeverFall [] = Unit {0}
NeverFall (f ∷ rows) = NoneBefore f rows × NeverFall rows

-- what is before a quote is before what isn't before that
before_all : (f g : Frozen) (rows : List Frozen) → is_gt (series_cmp f.series g.series) ≡ false → NoneBefore g rows →
    NoneBefore f rows
before_all f g [] e all = tt
before_all f g (h ∷ rows) e all = (
  cases (series_cmp f.series g.series) (series_cmp g.series h.series) refl refl e all.0,
  before_all f g rows e all.1,
)
  where
    cases : (s t : Ordering) → series_cmp f.series g.series ≡ s → series_cmp g.series h.series ≡ t →
        is_gt (series_cmp f.series g.series) ≡ false → is_gt (series_cmp g.series h.series) ≡ false →
        is_gt (series_cmp f.series h.series) ≡ false
    cases Less Less p q e1 e2 = ap is_gt (series_cmp_total.trans f.series g.series h.series p q)
    cases Less Equal p q e1 e2 =
        let back : series_cmp h.series f.series ≡ series_cmp g.series f.series =
        sym (series_cmp_total.congr g.series h.series f.series q) in
        ap is_gt (series_cmp_total.antisymm f.series h.series ∙ ap ordering_reverse back
        ∙ sym (series_cmp_total.antisymm f.series g.series) ∙ p)
    cases Less Greater p q e1 e2 = let no : true ≡ false = sym (ap is_gt q) ∙ e2 in cc
    cases Equal t p q e1 e2 = ap is_gt (series_cmp_total.congr f.series g.series h.series p) ∙ e2
    cases Greater t p q e1 e2 = let no : true ≡ false = sym (ap is_gt p) ∙ e1 in cc

-- what is after both is after what is put among those
placed_after : (f g : Frozen) (rows : List Frozen) → is_gt (series_cmp g.series f.series) ≡ false →
    NoneBefore g rows → NoneBefore g (put_by_series f rows)
placed_after f g [] e all = (e, tt)
placed_after f g (h ∷ rows) e all = cases (is_gt (series_cmp f.series h.series)) refl (placed_after f g rows e all.1)
  where
    cases : (t : Bool) → is_gt (series_cmp f.series h.series) ≡ t → NoneBefore g (put_by_series f rows) →
        NoneBefore g (put_by_series f (h ∷ rows))
    cases true p rest = rw p (all.0, rest)
    cases false p rest = rw p (e, all)

other_way : (f g : Frozen) → is_gt (series_cmp f.series g.series) ≡ true → is_gt (series_cmp g.series f.series) ≡ false
other_way f g e = cases (series_cmp f.series g.series) refl e
  where
    cases : (s : Ordering) → series_cmp f.series g.series ≡ s → is_gt (series_cmp f.series g.series) ≡ true →
        is_gt (series_cmp g.series f.series) ≡ false
    cases Less p e = let no : false ≡ true = sym (ap is_gt p) ∙ e in cc
    cases Equal p e = let no : false ≡ true = sym (ap is_gt p) ∙ e in cc
    cases Greater p e = ap is_gt (series_cmp_total.antisymm g.series f.series ∙ ap ordering_reverse p)

placed_never_falls : (f : Frozen) (rows : List Frozen) → NeverFall rows → NeverFall (put_by_series f rows)
placed_never_falls f [] up = (tt, tt)
placed_never_falls f (g ∷ rows) up = cases (is_gt (series_cmp f.series g.series)) refl (placed_never_falls f rows up.1)
  where
    cases : (t : Bool) → is_gt (series_cmp f.series g.series) ≡ t → NeverFall (put_by_series f rows) →
        NeverFall (put_by_series f (g ∷ rows))
    cases true e rest = rw e (placed_after f g rows (other_way f g e) up.0, rest)
    cases false e rest = rw e ((e, before_all f g rows e up.0), up)

pub by_series_never_falls : (rows : List Frozen) → NeverFall (by_series rows)
by_series_never_falls [] = tt
by_series_never_falls (f ∷ rows) = placed_never_falls f (by_series rows) (by_series_never_falls rows)

-- ---- by their numbers, and so by series

by_number : (xs : List Frozen) → are_by_series frozen_serial xs ≡ true → IsInOrder nat_cmp frozen_serial xs
by_number xs h = rises_whole nat_cmp_total frozen_serial xs
    (λ k d l. less_of_lt _ _ (next_above frozen_serial xs 0 k d d h l))

-- level series have one number
one_number : (s t : SeriesId) → series_cmp s t ≡ Equal → serial s ≡ serial t
one_number s t e = cases (nat_cmp s.collector t.collector) refl e
  where
    cases : (w : Ordering) → nat_cmp s.collector t.collector ≡ w → ordering_then w (nat_cmp s.slot t.slot) ≡ Equal →
        serial s ≡ serial t
    cases Less p e = let no : Less ≡ Equal = e in cc
    cases Equal p e =
        let collector : s.collector ≡ t.collector = ranked s.collector t.collector Equal (sym p) in
        let slot : s.slot ≡ t.slot = ranked s.slot t.slot Equal (sym e) in
        rw (collector, slot) refl
    cases Greater p e = let no : Greater ≡ Equal = e in cc

strictly : (f : Frozen) (gs : List Frozen) → NoneBefore f gs →
    AllByRecursion (λ g. nat_cmp (frozen_serial f) (frozen_serial g) ≡ Less) gs →
    AllByRecursion (λ g. series_cmp f.series g.series ≡ Less) gs
strictly f [] up below = tt
strictly f (g ∷ gs) up below = (cases (series_cmp f.series g.series) refl up.0 below.0, strictly f gs up.1 below.1)
  where
    cases : (s : Ordering) → series_cmp f.series g.series ≡ s → is_gt (series_cmp f.series g.series) ≡ false →
        nat_cmp (frozen_serial f) (frozen_serial g) ≡ Less → series_cmp f.series g.series ≡ Less
    cases Less p e l = p
    cases Equal p e l =
        let same : frozen_serial f ≡ frozen_serial g = one_number f.series g.series p in
        let no : Less ≡ Equal = sym l ∙ ap (λ n. nat_cmp n (frozen_serial g)) same
        ∙ tied_itself nat_cmp_total (frozen_serial g) in
        cc
    cases Greater p e l = let no : true ≡ false = sym (ap is_gt p) ∙ e in cc

both_orders : (xs : List Frozen) → NeverFall xs → IsInOrder nat_cmp frozen_serial xs → IsInOrder series_cmp series xs
unfolding IsStrictlySortedBy
both_orders [] up sorted = tt
both_orders (f ∷ xs) up sorted = (strictly f xs up.0 sorted.0, both_orders xs up.1 sorted.1)

-- if no series comes twice, quotes by series rise
pub by_series_in_order : (rows : List Frozen) → are_by_series frozen_serial (by_series rows) ≡ true →
    IsInOrder series_cmp series (by_series rows)
by_series_in_order rows h = both_orders (by_series rows) (by_series_never_falls rows) (by_number (by_series rows) h)

-- ---- a sort by series gives quotes by series

-- what is sorted and has no series twice rises
sorted_rises : (xs ys : List Frozen) → IsPermutation xs ys → IsInOrder series_cmp series xs →
    IsSortedByKey series series_cmp ys → IsInOrder series_cmp series ys
sorted_rises xs ys moved order sorted = rises_whole series_cmp_total series ys step
  where
    R : Frozen → Frozen → Ordering
    R a b = series_cmp a.series b.series

    apart : IsDistinct (λ a b. is_eq (series_cmp (series a) (series b))) ys
    apart = once_from_order series_cmp_total series ys xs (IsPermutation-sym xs ys moved) order

    step : (k : ℕ) (d : Frozen) → k + 1 < length ys →
        series_cmp (series (get_or ys k d)) (series (get_or ys (k + 1) d)) ≡ Less
    step k d l = cases (series_cmp (series (get_or ys k d)) (series (get_or ys (k + 1) d))) refl
      where
        cases : (s : Ordering) → series_cmp (series (get_or ys k d)) (series (get_or ys (k + 1) d)) ≡ s →
            series_cmp (series (get_or ys k d)) (series (get_or ys (k + 1) d)) ≡ Less
        cases Less p = p
        cases Equal p =
            let differ = apart_from_distinct (λ (a : Frozen) (b : Frozen). is_eq (series_cmp a.series b.series)) ys k
            (k + 1) d apart (omega arith) l in
            let no : true ≡ false = sym (ap is_eq p) ∙ differ in
            cc
        cases Greater p =
            let fell : is_lt (series_cmp (series (get_or ys (k + 1) d)) (series (get_or ys k d))) ≡ false =
            sorted k d (omega arith) l in
            let back : series_cmp (series (get_or ys (k + 1) d)) (series (get_or ys k d)) ≡ Less =
            series_cmp_total.antisymm (series (get_or ys (k + 1) d)) (series (get_or ys k d))
            ∙ ap ordering_reverse p in
            let no : true ≡ false = sym (ap is_lt back) ∙ fell in
            cc

pub sorted_is_by_series : (old new : List Frozen) → IsPermutation old new → IsSortedByKey series series_cmp new →
    are_by_series frozen_serial (by_series old) ≡ true → new ≡ by_series old
sorted_is_by_series old new moved sorted h =
    let order = by_series_in_order old h in
    let whole = IsPermutation-trans (by_series old) old new
    (IsPermutation-sym old (by_series old) (by_series_moved old)) moved in
    same_rows series_cmp_total series new (by_series old) (sorted_rises (by_series old) new whole order sorted) order
    (λ k. row_moved series_cmp_total series k (by_series old) new whole
    (sorted_rises (by_series old) new whole order sorted))
