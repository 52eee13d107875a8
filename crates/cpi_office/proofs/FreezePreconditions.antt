-- A freeze that isn't refused meets the preconditions of its release.
use Rattle.std.proofs.Common.{◌≡◌, ◌≢◌, ◌⊎◌, inl, inr, eqb, ℕ, ◌+◌, ◌-◌, ◌≤◌, ◌<◌, suc, ◌++◌, true, false, List, []}
use Rattle.std.proofs.Common.{◌∷◌, Some, None, Option, refl, sym, ap, subst, ◌∙◌, arith}
use Rattle.std.specs.Prelude.{◌%◌, ◌==◌, IsSome, if◌then◌else◌}
use Rattle.std.specs.Option.{option_or}
use Rattle.std.specs.List.{AllByRecursion}
use Rattle.std.specs.declared.cmp.Ordering.TheVariants.{Less}
use Rattle.std.proofs.lemmas.Bool.{eqb-true, false≢true, lt-leb, cases_lt}
use Rattle.std.proofs.lemmas.Bool.Decides.{eqb_tells}
use Rattle.cpi_rows.specs.Keyed.{IsInOrder, row_by_number}
use Rattle.std.proofs.lemmas.Map.Keys.{sorted_head}
use Rattle.cpi_codes.specs.Month.{year_of}
use Rattle.cpi_plan.specs.Plan.{Plan}
use Rattle.cpi_release.specs.FrozenMonths.{frozen_month, frozen_months, release_cmp, release_key, last_frozen, follows}
use Rattle.cpi_release.specs.FrozenMonths.{is_next_month, is_past_first_month, plan_for}
use Rattle.cpi_release.specs.Releases.{latest_release}
use Rattle.cpi_release.specs.declared.release.Release.{Release}
use Rattle.cpi_release.specs.declared.frozen_month.FrozenMonth.{FrozenMonth}
use Rattle.cpi_store.specs.Released.{AreReleased}
use Rattle.cpi_office.specs.FreezePreconditions.{FollowsRelease, MeetsPreconditions, JudgedMeetsPreconditions}
use Rattle.cpi_store.proofs.History.{plan_same, next_after, again_or_next, month_up}
use Rattle.cpi_office.proofs.Judged.{judged_follows, judged_month}

-- ---- each month from the first to the last has a release

some_or : {X : Type 0} (a b : Option X) → IsSome b → IsSome (option_or a b)
some_or None b h = h
some_or (Some x) b h = refl

some_first : {X : Type 0} (a b : Option X) → IsSome a → IsSome (option_or a b)
some_first None b h = absurd (false≢true h)
some_first (Some x) b h = refl

module _ (plans : List Plan) (n : ℕ) where
  reached : (before : List Release) (x : Release) (rs : List Release) → AreReleased plans before (x ∷ rs) →
      x.month ≤ n → (last : FrozenMonth) → last_frozen (frozen_months (x ∷ rs)) ≡ Some last → n ≤ last.month →
      IsSome (latest_release (x ∷ rs) n)
  reached before x [] all low last e high =
      let here : Some (frozen_month x) ≡ Some last = e in
      let is : frozen_month x ≡ last = cc in
      let same : x.month ≡ last.month = ap (λ (l : FrozenMonth). l.month) is in
      cases (eqb_tells x.month n) (omega (arith, low, high, same))
    where
      cases : ((eqb x.month n ≡ true) × (x.month ≡ n)) ⊎ ((eqb x.month n ≡ false) × (x.month ≢ n)) → x.month ≡ n →
          IsSome (latest_release (x ∷ []) n)
      cases (inl same) is = rw same.0 refl
      cases (inr apart) is = absurd (apart.1 is)
  reached before x (y ∷ rs) all low last e high = cases (eqb_tells x.month n) (reached (before ++ x ∷ []) y rs all.1)
    where
      step : (y.month ≡ x.month) ⊎ (y.month ≡ x.month + 1)
      step = again_or_next plans x.month y.month (sym (next_after plans y.month before x) ∙ all.1.0.follows)

      cases : ((eqb x.month n ≡ true) × (x.month ≡ n)) ⊎ ((eqb x.month n ≡ false) × (x.month ≢ n)) →
          (y.month ≤ n → (last : FrozenMonth) → last_frozen (frozen_months (y ∷ rs)) ≡ Some last → n ≤ last.month →
          IsSome (latest_release (y ∷ rs) n)) → IsSome (latest_release (x ∷ y ∷ rs) n)
      cases (inl same) rest = some_or (latest_release (y ∷ rs) n) (if x.month == n then Some x else None)
          (rw same.0 refl)
      cases (inr apart) rest =
          let below : y.month ≤ n = elim step [
            | inl again ↦ omega (arith, again, low)
            | inr next ↦ omega
                (arith, next, low, apart.1)
          ] in
          some_first (latest_release (y ∷ rs) n) (if x.month == n then Some x else None) (rest below last e high)

-- ---- the first is before all others

first_least : (x : Release) (rs : List Release) →
    AllByRecursion (λ (s : Release). release_cmp (release_key x) (release_key s) ≡ Less) rs → (month : ℕ) →
    month ≤ x.month → is_past_first_month month (frozen_months rs) ≡ false
first_least x [] all month low = refl
first_least x (s ∷ rs) all month low =
    let up = month_up [] (release_key x) (release_key s) all.0 in
    rw (lt-leb (suc s.month) month (omega (arith, up, low))) (first_least x rs all.1 month low)

none_there : (x : Release) (rs : List Release) → IsInOrder release_cmp release_key (x ∷ rs) → (month : ℕ) →
    month ≤ x.month → is_past_first_month month (frozen_months (x ∷ rs)) ≡ false
none_there x rs sorted month low =
    rw (lt-leb (suc x.month) month (omega (arith, low)))
    (first_least x rs (sorted_head (λ (a b : Release). release_cmp (release_key a) (release_key b)) x rs sorted)
    month low)

last_least : (x : Release) (rs : List Release) → IsInOrder release_cmp release_key (x ∷ rs) → (last : FrozenMonth) →
    last_frozen (frozen_months (x ∷ rs)) ≡ Some last → x.month ≤ last.month
last_least x rs sorted last e = among x rs (sorted_head
    (λ (a b : Release). release_cmp (release_key a) (release_key b)) x rs sorted) (omega arith) last e
  where
    among : (y : Release) (rs : List Release) → AllByRecursion
        (λ (s : Release). release_cmp (release_key x) (release_key s) ≡ Less) rs → x.month ≤ y.month →
        (last : FrozenMonth) → last_frozen (frozen_months (y ∷ rs)) ≡ Some last → x.month ≤ last.month
    among y [] all h last e =
        let here : Some (frozen_month y) ≡ Some last = e in
        let is : frozen_month y ≡ last = cc in
        let same : y.month ≡ last.month = ap (λ (l : FrozenMonth). l.month) is in
        omega (arith, h, same)
    among y (z ∷ rs) all h last e = among z rs all.1 (month_up [] (release_key x) (release_key z) all.0) last e

module _ (plans : List Plan) (month : ℕ) where
  abbrev asked_plan : List Release → Option Plan
  asked_plan rs = plan_for plans (frozen_months rs) month

  -- with a plan, an earlier month was frozen
  later : (x : Release) (rs : List Release) → IsInOrder release_cmp release_key (x ∷ rs) →
      IsSome (asked_plan (x ∷ rs)) → x.month < month
  later x rs sorted some = cases (cases_lt x.month month)
    where
      cases : (x.month < month) ⊎ (month ≤ x.month) → x.month < month
      cases (inl less) = less
      cases (inr more) =
          let none : asked_plan (x ∷ rs) ≡ None = ap (λ b. if b then row_by_number (λ (y : Plan). y.year)
          (year_of month) plans else None) (none_there x rs sorted month more) in
          absurd (false≢true (subst IsSome none some))

  pub next_meets_preconditions : (rs : List Release) → IsInOrder release_cmp release_key rs → AreReleased plans [] rs →
      is_next_month month (frozen_months rs) ≡ true → MeetsPreconditions plans rs (asked_plan rs) month
  next_meets_preconditions [] sorted all e = record { plan_is = refl; after = λ some. absurd (false≢true some) }
  next_meets_preconditions (x ∷ rs) sorted all e = record {
    plan_is = sym (plan_same plans month (x ∷ rs));
    after = λ some. cases (last_frozen (frozen_months (x ∷ rs))) refl (later x rs sorted some);
  }
    where
      before : month - 1 + 1 ≡ month → IsSome (latest_release (x ∷ rs) (month - 1)) → FollowsRelease (x ∷ rs) month
      before is found = some_is (latest_release (x ∷ rs) (month - 1)) refl found
        where
          some_is : (o : Option Release) → latest_release (x ∷ rs) (month - 1) ≡ o → IsSome o →
              FollowsRelease (x ∷ rs) month
          some_is None f h = absurd (false≢true h)
          some_is (Some r) f h = (month - 1, is, r, f)

      december : x.month % 12 ≡ 11
      december = eqb-true (x.month % 12) 11 all.0.follows

      cases : (o : Option FrozenMonth) → last_frozen (frozen_months (x ∷ rs)) ≡ o → x.month < month →
          FollowsRelease (x ∷ rs) month × (12 ≤ month)
      cases None f less = absurd (nothing x rs f)
        where
          nothing : (x : Release) (rs : List Release) → last_frozen (frozen_months (x ∷ rs)) ≡ None → ⊥
          nothing x [] f = let no : Some (frozen_month x) ≡ None = f in cc
          nothing x (y ∷ rs) f = nothing y rs f
      cases (Some last) f less =
          let up = last_least x rs sorted last f in
          let high : month ≤ last.month + 1 = elim (again_or_next plans last.month month
          (subst (λ o. follows month o ≡ true) f e)) [
            | inl again ↦ omega (arith, again)
            | inr next ↦ omega
                (arith, next)
          ] in
          let is : month - 1 + 1 ≡ month = omega (arith, less) in (
            before is (reached plans (month - 1) [] x rs all (omega (arith, less)) last f (omega (arith, high, is))),
            omega (arith, december, less),
          )

pub judged_meets_preconditions : JudgedMeetsPreconditions
judged_meets_preconditions o now month carry row s e =
    let same : row.month ≡ month = judged_month now month carry o.releases o.calendar o.plans row e in
    next_meets_preconditions o.plans row.month o.releases s.orderly.releases s.released
    (ap (λ k. is_next_month k (frozen_months o.releases)) same
    ∙ judged_follows now month carry o.releases o.calendar o.plans row e)
