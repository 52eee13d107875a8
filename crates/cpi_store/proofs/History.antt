-- What a sound office says of its releases, in the words of the index.
use Rattle.std.proofs.Common.{◌≡◌, ◌≢◌, ◌⊎◌, inl, inr, eqb, ℕ, zero, suc, ◌+◌, ◌<◌, ◌≤◌, Bool, true, false, List, []}
use Rattle.std.proofs.Common.{◌∷◌, ◌++◌, map, length, Some, None, Option, refl, sym, ap, ◌∙◌, subst, arith}
use Rattle.std.proofs.Common.{append_assoc}
use Rattle.std.specs.Prelude.{◌%◌, ◌==◌, ◌||◌, ◌&&◌, nat_lt, is_none, IsSome, fold, slice_index_or, if◌then◌else◌}
use Rattle.std.specs.List.{AllByRecursion}
use Rattle.std.specs.declared.cmp.Ordering.{Ordering}
use Rattle.std.specs.declared.cmp.Ordering.TheVariants.{Less, Equal, Greater}
use Rattle.std.specs.Ordering.{nat_cmp, is_eq, ordering_then}
use Rattle.std.proofs.lemmas.Bool.Decides.{eqb_tells}
use Rattle.std.proofs.lemmas.Bool.{eqb-true, false≢true, lt-leb}
use Rattle.std.proofs.lemmas.Cmp.{ranked}
use Rattle.std.proofs.lemmas.Map.Keys.{sorted_head, sorted_tail}
use Rattle.std.proofs.lemmas.List.{append-nil}
use Rattle.std.proofs.lemmas.List.Folds.{list_any-append}
use Rattle.cpi_codes.specs.Month.{year_of}
use Rattle.cpi_codes.specs.CodeOrder.{code_cmp}
use Rattle.std.specs.List.Sorted.{IsStrictlySortedBy}
use Rattle.cpi_rows.proofs.Places.{none_in_order}
use Rattle.cpi_rows.specs.Keyed.{row_by_number, IsInOrder}
use Rattle.cpi_rows.proofs.Lists.{all_behind}
use Rattle.cpi_plan.specs.Plan.{Plan}
use Rattle.cpi_plan.specs.declared.plan_rows.Node.{Node}
use Rattle.cpi_index.specs.Row.{Row}
use Rattle.cpi_index.specs.Series.{are_by_series, frozen_serial, carried_serial}
use Rattle.cpi_release.specs.FrozenMonths.{ReleaseKey, frozen_months, is_next_month, is_past_first_month, release_cmp}
use Rattle.cpi_release.specs.FrozenMonths.{release_key}
use Rattle.cpi_release.specs.FrozenMonths.{plan_for}
use Rattle.cpi_release.specs.Releasing.{Freeze, release_of_month, freeze_of, has_an_earlier, plan_in, AreMonths}
use Rattle.cpi_release.specs.Releasing.{IsOrdered}
use Rattle.cpi_release.specs.Releases.{latest_release, rows_of_bases, plan_in_use}
use Rattle.cpi_release.specs.MonthTable.{level_row}
use Rattle.cpi_release.specs.declared.level.Level.{Level}
use Rattle.cpi_release.proofs.LatestRows.{latest_all}
use Rattle.cpi_release.proofs.Sound.{carry_in_order}
use Rattle.cpi_release.specs.declared.release.Release.{Release}
use Rattle.cpi_store.specs.Released.{IsReleased, AreReleased}
use Rattle.cpi_store.specs.Sound.{IsSound, HasNodesInOrder}
use Rattle.cpi_store.proofs.Series.{frozen_by_serial, consistent, by_serial, all_series}
use Rattle.cpi_store.proofs.Released.{month_in_order, month_of_series}
use Rattle.cpi_store.specs.Office.{Office, quotes_of_month}
use Rattle.cpi_store.specs.History.{ReleasesAreComputed, ReleasesAreSound, SourcesAreFit}

-- ---- earlier months, by the releases and by their frozen_months
earlier_is : (month : ℕ) (rs : List Release) → has_an_earlier rs month ≡ is_past_first_month month (frozen_months rs)
earlier_is month [] = refl
earlier_is month (r ∷ rs) = ap (λ b. nat_lt r.month month || b) (earlier_is month rs)

-- ---- all releases, as they are made
module _ (plans : List Plan) where
  pub plan_same : (month : ℕ) (rs : List Release) → plan_in plans rs month ≡ plan_for plans (frozen_months rs) month
  plan_same month rs = ap (λ b. if b then row_by_number (λ (y : Plan). y.year) (year_of month) plans else None)
      (earlier_is month rs)

  abbrev one_released : List Release → Freeze → List Release
  one_released done x = done ++ release_of_month (plan_in plans done x.month) done x ∷ []

  all_same : (before rs : List Release) → AreReleased plans before rs →
      fold one_released before (map freeze_of rs) ≡ before ++ rs
  all_same before [] all = sym (append-nil before)
  all_same before (r ∷ rs) all =
      ap (λ w. fold one_released (before ++ release_of_month w before (freeze_of r) ∷ []) (map freeze_of rs))
      (plan_same r.month before)
      ∙ ap (λ x. fold one_released (before ++ x ∷ []) (map freeze_of rs)) (sym all.0.computed)
      ∙ all_same (before ++ r ∷ []) rs all.1
      ∙ append_assoc before (r ∷ []) rs

  -- ---- a month again, or the one after it
  pub next_after : (month : ℕ) (before : List Release) (x : Release) →
      is_next_month month (frozen_months (before ++ x ∷ [])) ≡ (x.month == month || month == x.month + 1)
  next_after month [] x = refl
  next_after month (b ∷ []) x = refl
  next_after month (b ∷ d ∷ before) x = next_after month (d ∷ before) x

  pub again_or_next : (a b : ℕ) → (a == b || b == a + 1) ≡ true → (b ≡ a) ⊎ (b ≡ a + 1)
  again_or_next a b e = cases (eqb_tells a b)
    where
      cases : ((eqb a b ≡ true) × (a ≡ b)) ⊎ ((eqb a b ≡ false) × (a ≢ b)) → (b ≡ a) ⊎ (b ≡ a + 1)
      cases (inl same) = inl (sym same.1)
      cases (inr apart) = inr (eqb-true b (a + 1) (rw apart.0 at e))

  abbrev months_in : Release → List Release → List ℕ
  months_in x rs = x.month ∷ map (λ (r : Release). r.month) rs

  steps : (before : List Release) (x : Release) (rs : List Release) → AreReleased plans (before ++ x ∷ []) rs →
      (k d : ℕ) → k + 1 < length (months_in x rs) →
      (slice_index_or (months_in x rs) (k + 1) d ≡ slice_index_or (months_in x rs) k d)
      ⊎ (slice_index_or (months_in x rs) (k + 1) d ≡ slice_index_or (months_in x rs) k d + 1)
  steps before x [] all k d lt = absurd (omega (arith, lt))
  steps before x (r ∷ rs) all zero d lt = again_or_next x.month r.month
      (sym (next_after r.month before x) ∙ all.0.follows)
  steps before x (r ∷ rs) all (suc k) d lt =
      let one : suc k + 1 ≡ suc (k + 1) = omega arith in
      let here = ap (λ n. slice_index_or (months_in x (r ∷ rs)) n d) one in
      elim (steps (before ++ x ∷ []) r rs all.1 k d (omega (arith, lt))) [
        | inl again ↦ inl (here ∙ again)
        | inr next ↦ inr (here ∙ next)
      ]

  months : (rs : List Release) → AreReleased plans [] rs → AreMonths (map (λ r. r.month) rs)
  months [] all = record { first = λ d lt. absurd (omega (arith, lt)); next = λ k d lt. absurd (omega (arith, lt)) }
  months (r ∷ rs) all = record {
    first = λ d lt. eqb-true (r.month % 12) 11 all.0.follows;
    next =
        λ k d lt. steps [] r rs all.1 k d lt;
  }

  -- ---- each but the first has its plan
  pub month_up : (a b : ReleaseKey) → release_cmp a b ≡ Less → a.0 ≤ b.0
  month_up a b e = cases (nat_cmp a.0 b.0) refl
    where
      cases : (o : Ordering) → nat_cmp a.0 b.0 ≡ o → a.0 ≤ b.0
      cases Less f = omega (arith, ranked a.0 b.0 Less (sym f))
      cases Equal f = omega (arith, ranked a.0 b.0 Equal (sym f))
      cases Greater f = let no : Greater ≡ Less = sym (ap (λ o. ordering_then o (nat_cmp a.1 b.1)) f) ∙ e in cc

  none_earlier : (r : Release) (rs : List Release) →
      AllByRecursion (λ (s : Release). release_cmp (release_key r) (release_key s) ≡ Less) rs →
      has_an_earlier rs r.month ≡ false
  none_earlier r [] all = refl
  none_earlier r (s ∷ rs) all =
      let up = month_up (release_key r) (release_key s) all.0 in
      rw (lt-leb (suc s.month) r.month (omega (arith, up))) (none_earlier r rs all.1)

  has_plan : (w : Option Plan) (b : Bool) → (b && is_none w) ≡ false → b ≡ true → IsSome w
  has_plan None true e h = absurd (false≢true (sym e))
  has_plan None false e h = absurd (false≢true h)
  has_plan (Some p) b e h = refl

  last_false : (a b : Bool) → (a || b) ≡ true → b ≡ false → a ≡ true
  last_false true b e f = refl
  last_false false b e f = absurd (false≢true (sym f ∙ e))

  abbrev IsPlanned : List Release → Release → Type 0
  IsPlanned all r = has_an_earlier all r.month ≡ true → IsSome
      (row_by_number (λ (y : Plan). y.year) (year_of r.month) plans)

  all_planned : (before rs : List Release) → IsInOrder release_cmp release_key rs → AreReleased plans before rs →
      AllByRecursion (IsPlanned (before ++ rs)) rs
  all_planned before [] sorted all = tt
  all_planned before (r ∷ rs) sorted all = (
    λ early.
        let not_itself : nat_lt r.month r.month ≡ false = lt-leb (suc r.month) r.month (omega arith) in
        let none : has_an_earlier (r ∷ rs) r.month ≡ false =
        rw not_itself (none_earlier r rs (sorted_head
        (λ (a b : Release). release_cmp (release_key a) (release_key b)) r rs sorted)) in
        let before_it : has_an_earlier before r.month ≡ true =
        last_false (has_an_earlier before r.month) (has_an_earlier (r ∷ rs) r.month)
        (sym (list_any-append (λ (s : Release). nat_lt s.month r.month) before (r ∷ rs)) ∙ early) none in
        has_plan (row_by_number (λ (y : Plan). y.year) (year_of r.month) plans)
        (is_past_first_month r.month (frozen_months before))
        all.0.planned (sym (earlier_is r.month before) ∙ before_it),
    subst (λ xs. AllByRecursion (IsPlanned xs) rs) (append_assoc before (r ∷ []) rs)
        (all_planned (before ++ r ∷ []) rs (sorted_tail
        (λ (a b : Release). release_cmp (release_key a) (release_key b)) r rs sorted) all.1),
  )

  planned : (rs : List Release) → IsInOrder release_cmp release_key rs → AreReleased plans [] rs → (month : ℕ) →
      IsSome (latest_release rs month) → has_an_earlier rs month ≡ true →
      IsSome (row_by_number (λ (y : Plan). y.year) (year_of month) plans)
  planned rs sorted all month found early = cases (latest_release rs month) refl found
    where
      cases : (o : Option Release) → latest_release rs month ≡ o → IsSome o →
          IsSome (row_by_number (λ (y : Plan). y.year) (year_of month) plans)
      cases None e some = absurd (false≢true some)
      cases (Some r) e some =
          let one = latest_all (λ (x : Release). x.month) month (IsPlanned rs) rs r (all_planned [] rs sorted all) e in
          subst (λ m. IsSome (row_by_number (λ (y : Plan). y.year) (year_of m) plans)) one.1
          (one.0 (ap (has_an_earlier rs) one.1 ∙ early))

-- ---- the lists of each release are in their order

pub at_all : {X : Type 0} (P : X → Type 0) (key : X → ℕ) (k : ℕ) (x : X) (xs : List X) → AllByRecursion P xs →
    row_by_number key k xs ≡ Some x → P x
at_all P key k x [] all found = let no : None ≡ Some x = found in cc
at_all P key k x (y ∷ ys) all found = cases (is_eq (nat_cmp (key y) k)) refl (at_all P key k x ys all.1)
  where
    cases : (b : Bool) → is_eq (nat_cmp (key y) k) ≡ b → (row_by_number key k ys ≡ Some x → P x) → P x
    cases true e rest =
        let some : Some y ≡ Some x = rw e at found in
        let is : y ≡ x = cc in
        subst P is all.0
    cases false e rest = rest (rw e at found)

-- a table has the order of the nodes
module _ (p : Plan) (releases : List Release) (month : ℕ) (rows : List Row) where
  rows_below : (n : Node) (ns : List Node) → AllByRecursion (λ (m : Node). code_cmp n.code m.code ≡ Less) ns →
      AllByRecursion (λ (l : Level). code_cmp n.code l.code ≡ Less) (map (level_row p releases month rows) ns)
  rows_below n [] all = tt
  rows_below n (m ∷ ns) all = (all.0, rows_below n ns all.1)

  table_in_order : (ns : List Node) → IsInOrder code_cmp (λ (n : Node). n.code) ns →
      IsInOrder code_cmp (λ (l : Level). l.code) (map (level_row p releases month rows) ns)
  unfolding IsStrictlySortedBy
  table_in_order [] sorted = tt
  table_in_order (n ∷ ns) sorted = (rows_below n ns sorted.0, table_in_order ns sorted.1)

module _ (plans : List Plan) (nodes : AllByRecursion HasNodesInOrder plans) where
  plan_ordered : (p : Plan) (before : List Release) (month : ℕ) →
      plan_for plans (frozen_months before) month ≡ Some p → HasNodesInOrder p
  plan_ordered p before month e = cases (is_past_first_month month (frozen_months before)) refl
    where
      cases : (b : Bool) → is_past_first_month month (frozen_months before) ≡ b → HasNodesInOrder p
      cases true t = at_all HasNodesInOrder (λ (y : Plan). y.year) (year_of month) p plans nodes (rw t at e)
      cases false t = let no : None ≡ Some p = rw t at e in cc

  one_ordered : (before : List Release) (r : Release) → AllByRecursion IsOrdered before →
      are_by_series frozen_serial r.frozen ≡ true → IsReleased plans before r → IsOrdered r
  one_ordered before r done frozen one = cases (plan_for plans (frozen_months before) r.month) refl
    where
      cases : (w : Option Plan) → plan_for plans (frozen_months before) r.month ≡ w → IsOrdered r
      cases None e = let is : r ≡ release_of_month None before (freeze_of r) = one.computed
          ∙ ap (λ w. release_of_month w before (freeze_of r)) e in record {
            frozen = frozen;
            carried = ap (λ (x : Release). are_by_series carried_serial x.carried) is;
            levels = subst (λ (x : Release). IsInOrder code_cmp (λ l. l.code) x.levels) (sym is)
                (none_in_order code_cmp (λ l. l.code));
          }
      cases (Some p) e = let is : r ≡ release_of_month (Some p) before (freeze_of r) = one.computed
          ∙ ap (λ w. release_of_month w before (freeze_of r)) e in record {
            frozen = frozen;
            carried = ap (λ (x : Release). are_by_series carried_serial x.carried) is
                ∙ carry_in_order before (λ month s found.
                (latest_all (λ (x : Release). x.month) month IsOrdered before s done found).0) p r.month r.frozen;
            levels = subst (λ (x : Release). IsInOrder code_cmp (λ l. l.code) x.levels) (sym is)
                (table_in_order (plan_in_use p before r.month) before r.month (rows_of_bases p before r.month r.frozen)
                p.nodes (plan_ordered p before r.month e));
          }

  all_ordered : (before rs : List Release) → AllByRecursion IsOrdered before →
      AllByRecursion (λ (r : Release). are_by_series frozen_serial r.frozen ≡ true) rs → AreReleased plans before rs →
      AllByRecursion IsOrdered rs
  all_ordered before [] done frozen all = tt
  all_ordered before (r ∷ rs) done frozen all = let one = one_ordered before r done frozen.0 all.0 in
      (one, all_ordered (before ++ r ∷ []) rs (all_behind IsOrdered before r done one) frozen.1 all.1)

-- ---- what a sound office has

pub releases_sound : ReleasesAreSound
releases_sound o s = let frozen = frozen_by_serial o.assignments s.made o.releases s.frozen in record {
  years = s.orderly.plans;
  in_order = record {
    months = months o.plans o.releases s.released;
    ordered = λ month r found. (latest_all (λ (x : Release). x.month) month IsOrdered o.releases r
        (all_ordered o.plans s.nodes [] o.releases tt frozen s.released) found).0;
  };
  planned = planned o.plans o.releases s.orderly.releases s.released;
  consistent = consistent o.assignments s.made o.releases s.frozen;
  computed = sym (all_same o.plans [] o.releases s.released);
}

pub quotes_by_series : (o : Office) → IsSound o → (month : ℕ) → are_by_series frozen_serial
    (quotes_of_month month o) ≡ true
quotes_by_series o s month =
    by_serial (quotes_of_month month o) (all_series o.assignments s.made (quotes_of_month month o)
    (month_of_series o s month))
    (month_in_order o s month)

pub releases_computed : ReleasesAreComputed
releases_computed o s = (releases_sound o s).computed

pub sources_fit : SourcesAreFit
sources_fit o s = ((releases_sound o s).in_order, quotes_by_series o s)
