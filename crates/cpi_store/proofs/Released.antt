-- What is frozen of a month, and the releases one after the other.
use Rattle.std.proofs.Common.{◌≡◌, ◌≢◌, ℕ, ◌+◌, true, false, eqb, List, [], ◌∷◌, ◌++◌, Some, None, Option, refl, sym}
use Rattle.std.proofs.Common.{ap, ◌∙◌, subst, arith, inl, inr, append_assoc}
use Rattle.std.specs.Prelude.{◌⊎◌, is_none, ◌&&◌, if◌then◌else◌}
use Rattle.std.specs.declared.cmp.Ordering.TheVariants.{Less, Equal}
use Rattle.std.specs.Ordering.{nat_cmp, is_eq}
use Rattle.std.specs.List.{AllByRecursion, filter_map}
use Rattle.std.proofs.lemmas.Bool.{eqb-true, lt-ltb}
use Rattle.std.proofs.lemmas.Bool.Decides.{eqb_tells}
use Rattle.std.proofs.lemmas.Cmp.{nat_cmp_total, tied_itself, then_total, on_total}
use Rattle.std.specs.Cmp.{IsTotalOrder}
use Rattle.std.proofs.lemmas.Map.Keys.{sorted_head, sorted_tail}
use Rattle.std.proofs.lemmas.List.{append-nil}
use Rattle.std.proofs.lemmas.Map.Lookups.{exact_pairs, exact_unsigned}
use Rattle.cpi_rows.specs.Keyed.{IsInOrder, row_by_number, row_at, put_by}
use Rattle.cpi_rows.specs.Held.{held_by}
use Rattle.cpi_rows.proofs.Found.{row_key}
use Rattle.cpi_rows.proofs.Puts.{put_last, row_at_put_apart, different}
use Rattle.cpi_codes.specs.Month.{year_of}
use Rattle.cpi_survey.specs.Assignment.{is_active}
use Rattle.cpi_survey.specs.Quote.{QuoteRow, quote_cmp, quote_key}
use Rattle.cpi_plan.specs.Plan.{Plan}
use Rattle.cpi_release.specs.FrozenMonths.{ReleaseKey, release_cmp, release_key, frozen_month, frozen_months, follows}
use Rattle.cpi_release.specs.FrozenMonths.{revision_after, is_next_month, revision_to_give, has_year_frozen}
use Rattle.cpi_release.specs.FrozenMonths.{is_past_first_month}
use Rattle.cpi_release.specs.FrozenMonths.{plan_for}
use Rattle.cpi_release.specs.Releasing.{release_of_month, fault_of, freeze_of}
use Rattle.cpi_release.specs.declared.release.Release.{Release}
use Rattle.cpi_store.specs.declared.given.Given.{Given}
use Rattle.cpi_store.specs.Office.{Office, frozen_row, stored_rows, quotes_of_month, put_release}
use Rattle.cpi_store.specs.Series.{series_cmp}
use Rattle.cpi_store.specs.FrozenLists.{IsOfSeries, HasFrozenList}
use Rattle.cpi_store.specs.Released.{IsReleased, AreReleased}
use Rattle.cpi_store.specs.Sound.{IsSound, HasItsAssignment, HasItsSeries, AreApart, AllPairs}
use Rattle.cpi_store.proofs.Slots.{all_of_held, each_found}
use Rattle.cpi_store.proofs.Placed.{all_by_series, by_series_in_order}

-- ---- the quotes of a month

one_given : (g h : Given) → Some g ≡ Some h → h ≡ g
one_given g h e = cc

module _ (month : ℕ) (quotes : List (ℕ × QuoteRow)) (given : List (ℕ × Given)) where
  -- the quote that is stored of the month for what a slot was given
  abbrev pub stored : ℕ × Given → Option QuoteRow
  stored r = row_at quote_cmp quote_key (r.1.assignment.slot, month) (held_by r.0 quotes)

  -- what has a quote of the month is active in it
  abbrev pub IsActiveIfQuoted : ℕ × Given → Type 0
  IsActiveIfQuoted r = (q : QuoteRow) → stored r ≡ Some q → is_active month r.1.assignment ≡ true

  active_if_quoted : AllByRecursion (HasItsAssignment given) quotes → (r : ℕ × Given) →
      row_by_number (λ g. g.assignment.slot) r.1.assignment.slot (held_by r.0 given) ≡ Some r.1 → IsActiveIfQuoted r
  active_if_quoted quoted r found q e =
      let has = all_of_held quote_cmp quote_key (HasItsAssignment given) r.0
      (r.1.assignment.slot, month) q quotes quoted e in
      let keys : (q.slot, q.month) ≡ (r.1.assignment.slot, month) =
      exact_pairs nat_cmp nat_cmp exact_unsigned exact_unsigned (q.slot, q.month) (r.1.assignment.slot, month)
      (row_key quote_cmp quote_key (r.1.assignment.slot, month) q (held_by r.0 quotes) e) in
      let both : Some r.1 ≡ Some has.0 = sym found ∙ ap
      (λ (k : ℕ × ℕ). row_by_number (λ (g : Given). g.assignment.slot) k.0 (held_by r.0 given)) (sym keys) ∙ has.1 in
      let is : has.0 ≡ r.1 = one_given r.1 has.0 both in
      ap (λ (k : ℕ × ℕ). is_active k.1 r.1.assignment) (sym keys) ∙ ap (λ (g : Given). is_active q.month g.assignment)
      (sym is) ∙ has.2

  pub all_active : AllByRecursion (HasItsAssignment given) quotes → (rows : List (ℕ × Given)) →
      AllByRecursion (λ (r : ℕ × Given). row_by_number (λ g. g.assignment.slot) r.1.assignment.slot
      (held_by r.0 given) ≡ Some r.1) rows → AllByRecursion IsActiveIfQuoted rows
  all_active quoted [] each = tt
  all_active quoted (r ∷ rows) each = (active_if_quoted quoted r each.0, all_active quoted rows each.1)

  -- no other assignment of a series has a quote of a month in which the series has this one
  others_apart : (r : ℕ × Given) (rows : List (ℕ × Given)) → is_active month r.1.assignment ≡ true →
      AllByRecursion (AreApart r) rows → AllByRecursion IsActiveIfQuoted rows →
      AllByRecursion (λ f. r.1.series ≢ f.series) (filter_map (frozen_row month quotes given) rows)
  others_apart r [] active apart quoted = tt
  others_apart r (s ∷ rows) active apart quoted = cases (stored s) refl (others_apart r rows active apart.1 quoted.1)
    where
      cases : (w : Option QuoteRow) → stored s ≡ w → AllByRecursion (λ f. r.1.series ≢ f.series)
          (filter_map (frozen_row month quotes given) rows) →
          AllByRecursion (λ f. r.1.series ≢ f.series) (filter_map (frozen_row month quotes given) (s ∷ rows))
      cases None e rest = rw e rest
      cases (Some q) e rest = rw e (λ same. apart.0 same month active (quoted.0 q e), rest)

  stored_apart : (rows : List (ℕ × Given)) → AllPairs AreApart rows → AllByRecursion IsActiveIfQuoted rows →
      AllPairs (λ f g. f.series ≢ g.series) (filter_map (frozen_row month quotes given) rows)
  stored_apart [] apart quoted = tt
  stored_apart (r ∷ rows) apart quoted = cases (stored r) refl (stored_apart rows apart.1 quoted.1)
    where
      cases : (w : Option QuoteRow) → stored r ≡ w → AllPairs (λ f g. f.series ≢ g.series)
          (filter_map (frozen_row month quotes given) rows) →
          AllPairs (λ f g. f.series ≢ g.series) (filter_map (frozen_row month quotes given) (r ∷ rows))
      cases None e rest = rw e rest
      cases (Some q) e rest = rw e (others_apart r rows (quoted.0 q e) apart.0 quoted.1, rest)

  stored_of_series : (rows : List (ℕ × Given)) → AllByRecursion (HasItsSeries given) rows →
      AllByRecursion (IsOfSeries given) (filter_map (frozen_row month quotes given) rows)
  stored_of_series [] series = tt
  stored_of_series (r ∷ rows) series = cases (stored r) refl (stored_of_series rows series.1)
    where
      cases : (w : Option QuoteRow) → stored r ≡ w → AllByRecursion (IsOfSeries given)
          (filter_map (frozen_row month quotes given) rows) →
          AllByRecursion (IsOfSeries given) (filter_map (frozen_row month quotes given) (r ∷ rows))
      cases None e rest = rw e rest
      cases (Some q) e rest = rw e ((series.0.0, series.0.1, sym series.0.3, refl), rest)

module _ (o : Office) (s : IsSound o) (month : ℕ) where
  pub month_active : AllByRecursion (IsActiveIfQuoted month o.quotes o.assignments) o.assignments
  month_active = all_active month o.quotes o.assignments s.quoted o.assignments
      (each_found (λ g. g.assignment.slot) o.assignments s.orderly.assignments)

  pub month_in_order : IsInOrder series_cmp (λ f. f.series) (quotes_of_month month o)
  month_in_order = by_series_in_order (stored_rows month o.quotes o.assignments)
      (stored_apart month o.quotes o.assignments o.assignments s.apart month_active)

  pub month_of_series : AllByRecursion (IsOfSeries o.assignments) (quotes_of_month month o)
  month_of_series = all_by_series (IsOfSeries o.assignments) (stored_rows month o.quotes o.assignments)
      (stored_of_series month o.quotes o.assignments o.assignments s.series)

pub newly_frozen : (o : Office) → IsSound o → (r : Release) → r.frozen ≡ quotes_of_month r.month o →
    HasFrozenList o.assignments r
newly_frozen o s r is = record {
  in_order = subst (IsInOrder series_cmp (λ f. f.series)) (sym is) (month_in_order o s r.month);
  of_series = subst (AllByRecursion (IsOfSeries o.assignments)) (sym is) (month_of_series o s r.month);
}

-- ---- what follows is put at the end

pub release_total : IsTotalOrder release_cmp
release_total = then_total (on_total (λ k. k.0) nat_cmp_total) (on_total (λ k. k.1) nat_cmp_total)

below_next : (n : ℕ) → nat_cmp n (n + 1) ≡ Less
below_next n = rw (lt-ltb n (n + 1) (omega arith)) refl

-- the last release, and one that follows it
last_below : (r : Release) (month : ℕ) → follows month (Some (frozen_month r)) ≡ true →
    release_cmp (release_key r) (month, revision_after month (Some (frozen_month r))) ≡ Less
last_below r month e = cases (eqb_tells r.month month) e
  where
    cases : ((eqb r.month month ≡ true) × (r.month ≡ month)) ⊎ ((eqb r.month month ≡ false) × (r.month ≢ month)) →
        follows month (Some (frozen_month r)) ≡ true →
        release_cmp (release_key r) (month, revision_after month (Some (frozen_month r))) ≡ Less
    cases (inl same) e =
        let level : nat_cmp r.month month ≡ Equal = ap (λ k. nat_cmp k month) same.1
        ∙ tied_itself nat_cmp_total month in
        rw (level, same.0) (below_next r.revision)
    cases (inr apart) e =
        let is : month ≡ r.month + 1 = eqb-true month (r.month + 1) (rw apart.0 at e) in
        let less : nat_cmp r.month month ≡ Less = ap (nat_cmp r.month) is ∙ below_next r.month in
        rw less refl

-- each release is listed before the one that follows
all_below : (month : ℕ) (rs : List Release) → IsInOrder release_cmp release_key rs →
    is_next_month month (frozen_months rs) ≡ true → AllByRecursion
    (λ r. release_cmp (release_key r) (month, revision_to_give month (frozen_months rs)) ≡ Less) rs
all_below month [] sorted e = tt
all_below month (r ∷ []) sorted e = (last_below r month e, tt)
all_below month (r ∷ x ∷ rs) sorted e =
    let rest = all_below month (x ∷ rs) (sorted_tail (λ (a b : Release). release_cmp (release_key a) (release_key b))
    r (x ∷ rs) sorted) e in
    let head = sorted_head (λ (a b : Release). release_cmp (release_key a) (release_key b)) r (x ∷ rs) sorted in (
      release_total.trans (release_key r) (release_key x)
          (month, revision_to_give month (frozen_months (x ∷ rs))) head.0
          rest.0,
      rest,
    )

-- ---- one more release

released_append : (plans : List Plan) (before rs : List Release) (r : Release) → AreReleased plans before rs →
    IsReleased plans (before ++ rs) r → AreReleased plans before (rs ++ r ∷ [])
released_append plans before [] r all one = (subst (λ b. IsReleased plans b r) (append-nil before) one, tt)
released_append plans before (x ∷ rs) r all one = (
  all.0,
  released_append plans (before ++ x ∷ []) rs r all.1
      (subst (λ b. IsReleased plans b r) (sym (append_assoc before (x ∷ []) rs)) one),
)

pub put_at_end : (rs : List Release) (r : Release) → IsInOrder release_cmp release_key rs →
    is_next_month r.month (frozen_months rs) ≡ true → r.revision ≡ revision_to_give r.month (frozen_months rs) →
    put_release r rs ≡ rs ++ r ∷ []
put_at_end rs r sorted follows is =
    put_last release_total release_key r rs (subst
    (λ v. AllByRecursion (λ (s : Release). release_cmp (release_key s) (r.month, v) ≡ Less) rs) (sym is)
    (all_below r.month rs sorted follows))

-- a release that follows is not there yet
pub none_follows : (month : ℕ) (rs : List Release) → IsInOrder release_cmp release_key rs →
    is_next_month month (frozen_months rs) ≡ true → row_at release_cmp release_key
    (month, revision_to_give month (frozen_months rs)) rs ≡ None
none_follows month rs sorted follows = none_below (month, revision_to_give month (frozen_months rs)) rs
    (all_below month rs sorted follows)
  where
    none_below : (k : ReleaseKey) (rs : List Release) →
        AllByRecursion (λ (s : Release). release_cmp (release_key s) k ≡ Less) rs →
        row_at release_cmp release_key k rs ≡ None
    none_below k [] all = refl
    none_below k (s ∷ rs) all = rw (ap is_eq all.0) (none_below k rs all.1)

pub released_more : (plans : List Plan) (rs : List Release) → IsInOrder release_cmp release_key rs → (r : Release) →
    AreReleased plans [] rs → IsReleased plans rs r → AreReleased plans [] (put_release r rs)
released_more plans rs sorted r all one = subst (AreReleased plans [])
    (sym (put_at_end rs r sorted one.follows one.revision)) (released_append plans [] rs r all one)

-- ---- another plan of a year without a release

module _ (plans : List Plan) (p : Plan) (sorted : IsInOrder nat_cmp (λ y. y.year) plans) where
  abbrev others : List Plan
  others = put_by (λ y. y.year) p plans

  same_plan_at : (y : ℕ) → p.year ≢ y → row_by_number (λ y. y.year) y others ≡ row_by_number (λ y. y.year) y plans
  same_plan_at y apart = row_at_put_apart nat_cmp_total (λ y. y.year) y p plans sorted (different p.year y apart)

  one_replanned : (before : List Release) (r : Release) → p.year ≢ year_of r.month → IsReleased plans before r →
      IsReleased others before r
  one_replanned before r apart one =
      let same = same_plan_at (year_of r.month) apart in
      let plan : plan_for others (frozen_months before) r.month ≡ plan_for plans (frozen_months before) r.month =
      ap (λ w. if is_past_first_month r.month (frozen_months before) then w else None) same in
      record {
        follows = one.follows;
        revision = one.revision;
        planned = ap (λ w. is_past_first_month r.month (frozen_months before) && is_none w) same ∙ one.planned;
        faultless = ap (λ w. fault_of w before (freeze_of r)) plan ∙ one.faultless;
        computed = one.computed ∙ sym (ap (λ w. release_of_month w before (freeze_of r)) plan);
      }

  pub replanned : (before rs : List Release) → has_year_frozen p.year (frozen_months rs) ≡ false →
      AreReleased plans before rs → AreReleased others before rs
  replanned before [] free all = tt
  replanned before (r ∷ rs) free all = cases (eqb_tells (year_of r.month) p.year) (replanned (before ++ r ∷ []) rs)
    where
      cases : ((eqb (year_of r.month) p.year ≡ true) × (year_of r.month ≡ p.year))
          ⊎ ((eqb (year_of r.month) p.year ≡ false) × (year_of r.month ≢ p.year)) →
          (has_year_frozen p.year (frozen_months rs) ≡ false → AreReleased plans (before ++ r ∷ []) rs →
          AreReleased others (before ++ r ∷ []) rs) → AreReleased others before (r ∷ rs)
      cases (inl same) rest = let e : true ≡ false = rw same.0 at free in cc
      cases (inr apart) rest = (
        one_replanned before r (λ e. apart.1 (sym e)) all.0,
        rest
            (rw apart.0 at free) all.1,
      )
