-- Quotes that are put in the order of their series: they are in order if no series comes twice, and the first quote of
-- each series stays its first.
use Rattle.std.proofs.Common.{◌≡◌, ◌≢◌, Bool, true, false, List, [], ◌∷◌, refl, sym, ap, ◌∙◌}
use Rattle.std.specs.declared.cmp.Ordering.{Ordering}
use Rattle.std.specs.declared.cmp.Ordering.TheVariants.{Less, Equal, Greater}
use Rattle.std.specs.Ordering.{nat_cmp, ordering_then, ordering_reverse, is_eq, is_gt}
use Rattle.std.specs.List.{AllByRecursion}
use Rattle.std.specs.List.Sorted.{IsStrictlySortedBy}
use Rattle.std.proofs.lemmas.Cmp.{ranked, alike_right}
use Rattle.cpi_rows.specs.Keyed.{IsInOrder, row_at}
use Rattle.cpi_store.proofs.BySeries.{series_cmp_total}
use Rattle.cpi_codes.specs.declared.series.SeriesId.{SeriesId}
use Rattle.cpi_index.specs.Frozen.{Frozen}
use Rattle.cpi_store.specs.Series.{series_cmp, put_by_series, by_series}
use Rattle.cpi_store.specs.Sound.{AllPairs}

-- series that compare equal
pub series_equal : (s t : SeriesId) → series_cmp s t ≡ Equal → s ≡ t
series_equal s t e = cases (nat_cmp s.collector t.collector) refl e
  where
    cases : (w : Ordering) → nat_cmp s.collector t.collector ≡ w → ordering_then w (nat_cmp s.slot t.slot) ≡ Equal →
        s ≡ t
    cases Less f e = let no : Less ≡ Equal = e in cc
    cases Equal f e =
        let collector : s.collector ≡ t.collector = ranked s.collector t.collector Equal (sym f) in
        let slot : s.slot ≡ t.slot = ranked s.slot t.slot Equal (sym e) in
        λ n. record { collector = collector n; slot = slot n }
    cases Greater f e = let no : Greater ≡ Equal = e in cc

-- ---- what holds of each quote

pub all_placed : (P : Frozen → Type 0) (f : Frozen) (rows : List Frozen) → P f → AllByRecursion P rows →
    AllByRecursion P (put_by_series f rows)
all_placed P f [] one all = (one, tt)
all_placed P f (g ∷ rows) one all = cases (is_gt (series_cmp f.series g.series)) refl (all_placed P f rows one all.1)
  where
    cases : (w : Bool) → is_gt (series_cmp f.series g.series) ≡ w → AllByRecursion P (put_by_series f rows) →
        AllByRecursion P (put_by_series f (g ∷ rows))
    cases true e rest = rw e (all.0, rest)
    cases false e rest = rw e (one, (all.0, all.1))

pub all_by_series : (P : Frozen → Type 0) (rows : List Frozen) → AllByRecursion P rows →
    AllByRecursion P (by_series rows)
all_by_series P [] all = tt
all_by_series P (f ∷ rows) all = all_placed P f (by_series rows) all.0 (all_by_series P rows all.1)

-- ---- in order

abbrev AreApart : Frozen → Frozen → Type 0
AreApart f g = f.series ≢ g.series

above_too : (f g : Frozen) (rows : List Frozen) → series_cmp f.series g.series ≡ Less →
    AllByRecursion (λ h. series_cmp g.series h.series ≡ Less) rows →
    AllByRecursion (λ h. series_cmp f.series h.series ≡ Less) rows
above_too f g [] less all = tt
above_too f g (h ∷ rows) less all = (
  series_cmp_total.trans f.series g.series h.series less all.0,
  above_too f g rows less all.1,
)

placed_in_order : (f : Frozen) (rows : List Frozen) → AllByRecursion (AreApart f) rows →
    IsInOrder series_cmp (λ g. g.series) rows → IsInOrder series_cmp (λ g. g.series) (put_by_series f rows)
unfolding IsStrictlySortedBy
placed_in_order f [] apart sorted = (tt, tt)
placed_in_order f (g ∷ rows) apart sorted = cases (series_cmp f.series g.series) refl
    (placed_in_order f rows apart.1 sorted.1)
  where
    cases : (w : Ordering) → series_cmp f.series g.series ≡ w → IsInOrder series_cmp (λ g. g.series)
        (put_by_series f rows) →
        IsInOrder series_cmp (λ g. g.series) (put_by_series f (g ∷ rows))
    cases Less e rest = rw (ap is_gt e) ((e, above_too f g rows e sorted.0), (sorted.0, sorted.1))
    cases Equal e rest = absurd (apart.0 (series_equal f.series g.series e))
    cases Greater e rest =
        let below : series_cmp g.series f.series ≡ Less = series_cmp_total.antisymm g.series f.series
        ∙ ap ordering_reverse e in
        rw (ap is_gt e) (all_placed (λ h. series_cmp g.series h.series ≡ Less) f rows below sorted.0, rest)

pub by_series_in_order : (rows : List Frozen) → AllPairs (λ f g. f.series ≢ g.series) rows →
    IsInOrder series_cmp (λ f. f.series) (by_series rows)
unfolding IsStrictlySortedBy
by_series_in_order [] apart = tt
by_series_in_order (f ∷ rows) apart = placed_in_order f (by_series rows) (all_by_series (AreApart f) rows apart.0)
    (by_series_in_order rows apart.1)

-- ---- the first quote of a series

module _ (s : SeriesId) where
  first_placed : (f : Frozen) (rows : List Frozen) →
      row_at series_cmp (λ f. f.series) s (put_by_series f rows) ≡ row_at series_cmp (λ f. f.series) s (f ∷ rows)
  first_placed f [] = refl
  first_placed f (g ∷ rows) = cases (series_cmp f.series g.series) refl (first_placed f rows)
    where
      Same : List Frozen → Type 0
      Same rs = row_at series_cmp (λ (f : Frozen). f.series) s (put_by_series f rs) ≡ row_at series_cmp
          (λ (f : Frozen). f.series) s (f ∷ rs)

      behind : series_cmp f.series g.series ≡ Greater → (w : Ordering) → series_cmp g.series s ≡ w → Same rows →
          row_at series_cmp (λ (f : Frozen). f.series) s (g ∷ put_by_series f rows) ≡ row_at series_cmp
          (λ (f : Frozen). f.series) s (f ∷ g ∷ rows)
      behind e Less t rest = rw (ap is_eq t) rest
      behind e Greater t rest = rw (ap is_eq t) rest
      behind e Equal t rest =
          let past : series_cmp f.series s ≡ Greater = sym (alike_right series_cmp_total g.series s f.series t) ∙ e in
          rw (ap is_eq t, ap is_eq past) refl

      cases : (w : Ordering) → series_cmp f.series g.series ≡ w → Same rows → Same (g ∷ rows)
      cases Less e rest = rw (ap is_gt e) refl
      cases Equal e rest = rw (ap is_gt e) refl
      cases Greater e rest = rw (ap is_gt e) (behind e (series_cmp g.series s) refl rest)

  pub first_by_series : (rows : List Frozen) → row_at series_cmp (λ f. f.series) s
      (by_series rows) ≡ row_at series_cmp (λ f. f.series) s rows
  first_by_series [] = refl
  first_by_series (f ∷ rows) = first_placed f (by_series rows)
      ∙ cases (is_eq (series_cmp f.series s)) refl (first_by_series rows)
    where
      cases : (w : Bool) → is_eq (series_cmp f.series s) ≡ w →
          row_at series_cmp (λ f. f.series) s (by_series rows) ≡ row_at series_cmp (λ f. f.series) s rows →
          row_at series_cmp (λ f. f.series) s (f ∷ by_series rows) ≡ row_at series_cmp (λ f. f.series) s (f ∷ rows)
      cases true e rest = rw e refl
      cases false e rest = rw e rest
