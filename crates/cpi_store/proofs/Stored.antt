-- What is frozen of a month is what is stored of it.
use Rattle.std.proofs.Common.{◌≡◌, ◌≢◌, ℕ, Bool, true, false, List, [], ◌∷◌, Some, None, Option, refl, sym, ap, ◌∙◌}
use Rattle.std.proofs.Common.{inl, inr}
use Rattle.std.specs.Prelude.{◌⊎◌, option_map, option_and_then}
use Rattle.std.specs.declared.cmp.Ordering.{Ordering}
use Rattle.std.specs.declared.cmp.Ordering.TheVariants.{Less, Equal, Greater}
use Rattle.std.specs.Ordering.{is_eq}
use Rattle.std.specs.List.{AllByRecursion, filter_map}
use Rattle.std.proofs.lemmas.Bool.{false≢true}
use Rattle.std.proofs.lemmas.Cmp.{tied_itself}
use Rattle.cpi_rows.specs.Keyed.{row_at}
use Rattle.cpi_store.proofs.BySeries.{series_cmp_total}
use Rattle.cpi_codes.specs.declared.series.SeriesId.{SeriesId}
use Rattle.cpi_survey.specs.declared.mark.Mark.{Mark}
use Rattle.cpi_survey.specs.Assignment.{is_active}
use Rattle.cpi_survey.specs.Quote.{QuoteRow}
use Rattle.cpi_index.specs.Frozen.{Frozen}
use Rattle.cpi_store.specs.declared.given.Given.{Given}
use Rattle.cpi_store.specs.Office.{Office, frozen_row, stored_rows}
use Rattle.cpi_store.specs.Series.{same_series, series_cmp}
use Rattle.cpi_store.specs.Sound.{AreApart, AllPairs}
use Rattle.cpi_store.specs.Stored.{assignment_in, stored_mark, FrozenAreStored}
use Rattle.cpi_store.proofs.Changes.{same_series_tells}
use Rattle.cpi_store.proofs.Placed.{series_equal, first_by_series}
use Rattle.cpi_store.proofs.Released.{stored, IsActiveIfQuoted, month_active}

-- another series compares as another
series_differ : (s t : SeriesId) → s ≢ t → is_eq (series_cmp s t) ≡ false
series_differ s t apart = cases (series_cmp s t) refl
  where
    cases : (w : Ordering) → series_cmp s t ≡ w → is_eq (series_cmp s t) ≡ false
    cases Less e = ap is_eq e
    cases Equal e = absurd (apart (series_equal s t e))
    cases Greater e = ap is_eq e

module _ (month : ℕ) (series : SeriesId) (o : Office) where
  abbrev of_month : ℕ × Given → Option QuoteRow
  of_month r = stored month o.quotes o.assignments r

  -- the mark of the series among the quotes that are stored for some of the assignments
  abbrev frozen_among : List (ℕ × Given) → Option Mark
  frozen_among rows = option_map (λ (f : Frozen). f.mark)
      (row_at series_cmp (λ (f : Frozen). f.series) series (filter_map (frozen_row month o.quotes o.assignments) rows))

  -- the mark of the quote of the assignment that the series has among them
  abbrev stored_among : List (ℕ × Given) → Option Mark
  stored_among rows = option_and_then (stored_mark month o) (assignment_in month series rows)

  unquoted_over : (r : ℕ × Given) (rows : List (ℕ × Given)) → of_month r ≡ None →
      frozen_among (r ∷ rows) ≡ frozen_among rows
  unquoted_over r rows e = rw e refl

  -- an assignment of another series is passed over
  passed_over : (r : ℕ × Given) (rows : List (ℕ × Given)) → r.1.series ≢ series →
      frozen_among (r ∷ rows) ≡ frozen_among rows
  passed_over r rows other = cases (of_month r) refl
    where
      cases : (w : Option QuoteRow) → of_month r ≡ w → frozen_among (r ∷ rows) ≡ frozen_among rows
      cases None e = rw e refl
      cases (Some q) e = rw (e, series_differ r.1.series series other) refl

  -- if the series has its assignment, it has no other
  no_other : (r : ℕ × Given) (rows : List (ℕ × Given)) → r.1.series ≡ series → is_active month r.1.assignment ≡ true →
      AllByRecursion (AreApart r) rows → assignment_in month series rows ≡ None
  no_other r [] same active apart = refl
  no_other r (s ∷ rows) same active apart = cases (same_series_tells s.1.series series)
      (is_active month s.1.assignment) refl (no_other r rows same active apart.1)
    where
      cases : ((same_series s.1.series series ≡ true) × (s.1.series ≡ series))
          ⊎ ((same_series s.1.series series ≡ false) × (s.1.series ≢ series)) → (w : Bool) →
          is_active month s.1.assignment ≡ w →
          assignment_in month series rows ≡ None → assignment_in month series (s ∷ rows) ≡ None
      cases (inl here) true e rest = absurd (apart.0 (same ∙ sym here.1) month active e)
      cases (inl here) false e rest = rw (here.0, e) rest
      cases (inr there) w e rest = rw there.0 rest

  among : (rows : List (ℕ × Given)) → AllPairs AreApart rows →
      AllByRecursion (IsActiveIfQuoted month o.quotes o.assignments) rows → frozen_among rows ≡ stored_among rows
  among [] apart quoted = refl
  among (r ∷ rows) apart quoted = cases (same_series_tells r.1.series series) (is_active month r.1.assignment) refl
      (of_month r) refl (among rows apart.1 quoted.1)
    where
      cases : ((same_series r.1.series series ≡ true) × (r.1.series ≡ series))
          ⊎ ((same_series r.1.series series ≡ false) × (r.1.series ≢ series)) → (w : Bool) →
          is_active month r.1.assignment ≡ w →
          (v : Option QuoteRow) → of_month r ≡ v → frozen_among rows ≡ stored_among rows →
          frozen_among (r ∷ rows) ≡ stored_among (r ∷ rows)
      cases (inr there) w e v f rest = passed_over r rows there.1 ∙ rest ∙ rw there.0 refl
      cases (inl here) true e (Some q) f rest =
          let level : is_eq (series_cmp r.1.series series) ≡ true =
          ap (λ (t : SeriesId). is_eq (series_cmp t series)) here.1 ∙ ap is_eq (tied_itself series_cmp_total series) in
          let frozen : frozen_among (r ∷ rows) ≡ Some q.mark = rw (f, level) refl in
          let kept : stored_among (r ∷ rows) ≡ Some q.mark = rw (here.0, e, f) refl in
          frozen ∙ sym kept
      cases (inl here) true e None f rest =
          let kept : stored_among (r ∷ rows) ≡ None = rw (here.0, e, f) refl in
          unquoted_over r rows f ∙ rest ∙ ap (option_and_then (stored_mark month o))
          (no_other r rows here.1 e apart.0) ∙ sym kept
      cases (inl here) false e (Some q) f rest = absurd (false≢true (sym e ∙ quoted.0 q f))
      cases (inl here) false e None f rest = unquoted_over r rows f ∙ rest ∙ rw (here.0, e) refl

pub frozen_are_stored : FrozenAreStored
frozen_are_stored o month series s =
    ap (option_map (λ (f : Frozen). f.mark)) (first_by_series series (stored_rows month o.quotes o.assignments))
    ∙ among month series o o.assignments s.apart (month_active o s month)
