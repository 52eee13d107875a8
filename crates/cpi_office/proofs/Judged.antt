-- What is known once a freeze is judged.
use Rattle.std.proofs.Common.{◌≡◌, ◌≢◌, ℕ, ◌+◌, ◌-◌, ◌≤◌, suc, Bool, true, false, eqb, List, [], ◌∷◌, length, Some}
use Rattle.std.proofs.Common.{None, Option, Result, Ok, Err, refl, sym, ap, ◌∙◌, subst, arith, inl, inr}
use Rattle.std.specs.Prelude.{◌⊎◌, ◌==◌, ◌&&◌, ◌||◌, slice_get, nat_lt, not, option_map, if◌then◌else◌}
use Rattle.std.proofs.lemmas.Bool.Decides.{eqb_tells}
use Rattle.cpi_codes.specs.declared.codes.Code.{Code}
use Rattle.cpi_rows.specs.Keyed.{row_by_number}
use Rattle.cpi_rows.proofs.Found.{at_key}
use Rattle.cpi_plan.specs.Plan.{Plan}
use Rattle.cpi_plan.specs.Calendar.{CalendarPart}
use Rattle.cpi_release.specs.FrozenMonths.{frozen_months, last_frozen, is_month_frozen, is_month_reopened, keeps_frozen}
use Rattle.cpi_release.specs.FrozenMonths.{is_next_month}
use Rattle.cpi_release.specs.FrozenMonths.{revision_to_give, plan_for, lacks_plan}
use Rattle.cpi_release.specs.declared.frozen_month.FrozenMonth.{FrozenMonth}
use Rattle.cpi_release.specs.declared.release.Release.{Release}
use Rattle.cpi_office.specs.Freezing.{freeze_judged, row_judged, plan_judged, carry_judged, has_unweighed}
use Rattle.std.proofs.lemmas.Bool.{false≢true, ltb-true}
use Rattle.cpi_office.specs.declared.refusal.Refusal.{Refusal}
use Rattle.cpi_office.specs.declared.refusal.Refusal.TheVariants.{FreezeOrder}

-- the last of a list, by its place
pub last_is : (frozen : List FrozenMonth) → slice_get frozen (length frozen - 1) ≡ last_frozen frozen
last_is [] = refl
last_is (x ∷ []) = refl
last_is (x ∷ y ∷ frozen) =
    let one : length (x ∷ y ∷ frozen) - 1 ≡ suc (length (y ∷ frozen) - 1) = omega arith in
    ap (slice_get (x ∷ y ∷ frozen)) one ∙ last_is (y ∷ frozen)

-- the last month is among the frozen ones
last_among : (month : ℕ) (frozen : List FrozenMonth) (last : FrozenMonth) → last_frozen frozen ≡ Some last →
    (last.month == month) ≡ true → is_month_frozen month frozen ≡ true
last_among month [] last e same = let no : None ≡ Some last = e in cc
last_among month (x ∷ []) last e same =
    let here : Some x ≡ Some last = e in
    let is : x ≡ last = cc in
    rw (ap (λ (l : FrozenMonth). l.month == month) is ∙ same) refl
last_among month (x ∷ y ∷ frozen) last e same = cases (x.month == month) (last_among month (y ∷ frozen) last e same)
  where
    cases : (w : Bool) → is_month_frozen month (y ∷ frozen) ≡ true → (w || is_month_frozen month (y ∷ frozen)) ≡ true
    cases true rest = refl
    cases false rest = rest

-- a month that doesn't stay frozen has fewer than nine revisions
pub few_revisions : (month : ℕ) (publishes : Option ℕ) (frozen : List FrozenMonth) →
    keeps_frozen month publishes frozen ≡ false → revision_to_give month frozen ≤ 9
few_revisions month publishes frozen free = cases (last_frozen frozen) refl
  where
    reopened : (w : Bool) → (true && not w) ≡ false → w ≡ true
    reopened true e = refl
    reopened false e = absurd (false≢true (sym e))

    three : (a b c : Bool) → (a && b && c) ≡ true → b ≡ true
    three true true c e = refl
    three true false c e = absurd (false≢true e)
    three false b c e = absurd (false≢true e)

    few : (last : FrozenMonth) (p : Option ℕ) → is_month_reopened month p (Some last) ≡ true → last.revision + 1 ≤ 9
    few last None e = absurd (false≢true e)
    few last (Some p) e = let less = ltb-true last.revision 9
        (three (last.month == month) (nat_lt last.revision 9) (nat_lt last.publishes p) e) in omega (arith, less)

    cases : (w : Option FrozenMonth) → last_frozen frozen ≡ w → revision_to_give month frozen ≤ 9
    cases None e = rw e (omega arith)
    cases (Some last) e = again (eqb_tells last.month month)
      where
        again : ((eqb last.month month ≡ true) × (last.month ≡ month))
            ⊎ ((eqb last.month month ≡ false) × (last.month ≢ month)) → revision_to_give month frozen ≤ 9
        again (inl same) = rw (e, same.0) (few last publishes
            (reopened (is_month_reopened month publishes (Some last))
            (rw (last_among month frozen last e same.0, e) at free)))
        again (inr apart) = rw (e, apart.0) (omega arith)

-- a test that was passed
pub passed : {A E : Type 0} (t : Bool) (f : E) (r : Result A E) (x : A) → (if t then Err f else r) ≡ Ok x →
    (t ≡ false) × (r ≡ Ok x)
passed true f r x e = let no : Err f ≡ Ok x = e in cc
passed false f r x e = (refl, e)

ok_is : {A E : Type 0} (r : Result A E) (x y : A) → r ≡ Ok x → r ≡ Ok y → x ≡ y
ok_is r x y e f = cc

module _ (now : ℕ) (carry : List Code) (frozen : List FrozenMonth) (plans : List Plan) where
  abbrev carry_passed : CalendarPart → Result CalendarPart Refusal
  carry_passed r = Ok r

  judged_row : (w : Option CalendarPart) (row : CalendarPart) → row_judged now plans frozen carry w ≡ Ok row →
      w ≡ Some row
  judged_row None row e = cc
  judged_row (Some r) row e =
      let closed = passed (nat_lt now r.closes) _ (plan_judged plans frozen carry r) row e in
      let planned = passed (lacks_plan plans frozen r.month) _ (carry_judged carry (plan_for plans frozen r.month) r)
      row closed.1 in
      let weighed = passed (has_unweighed (plan_for plans frozen r.month) carry) _ (Ok r) row planned.1 in
      ap Some (ok_is (carry_passed r) r row refl weighed.1)

module _ (now month : ℕ) (carry : List Code) (rs : List Release) (calendar : List CalendarPart) (plans : List Plan)
    (row : CalendarPart)
    (judged : freeze_judged now month carry (frozen_months rs) (row_by_number (λ r. r.month) month calendar) plans ≡ Ok
    row) where
  abbrev free : (keeps_frozen month (option_map (λ r. r.publishes) (row_by_number (λ r. r.month) month calendar))
      (frozen_months rs) ≡ false) × ((if not (is_next_month month (frozen_months rs)) then Err FreezeOrder
      else row_judged now plans (frozen_months rs) carry (row_by_number (λ r. r.month) month calendar)) ≡ Ok row)
  free = passed (keeps_frozen month (option_map (λ r. r.publishes) (row_by_number (λ r. r.month) month calendar))
      (frozen_months rs)) _ (if not (is_next_month month (frozen_months rs)) then Err FreezeOrder
      else row_judged now plans (frozen_months rs) carry (row_by_number (λ r. r.month) month calendar)) row judged

  abbrev follows : (not (is_next_month month (frozen_months rs)) ≡ false)
      × (row_judged now plans (frozen_months rs) carry (row_by_number (λ r. r.month) month calendar) ≡ Ok row)
  follows = passed (not (is_next_month month (frozen_months rs))) _
      (row_judged now plans (frozen_months rs) carry (row_by_number (λ r. r.month) month calendar)) row free.1

  -- the row is the month's
  pub judged_month : row.month ≡ month
  judged_month = at_key (λ r. r.month) month row calendar
      (judged_row now carry (frozen_months rs) plans (row_by_number (λ r. r.month) month calendar) row follows.1)

  -- the month is the next one
  pub judged_follows : is_next_month month (frozen_months rs) ≡ true
  judged_follows = cases (is_next_month month (frozen_months rs)) follows.0
    where
      cases : (w : Bool) → not w ≡ false → w ≡ true
      cases true e = refl
      cases false e = absurd (false≢true (sym e))

  -- it has fewer than nine revisions
  pub judged_few : revision_to_give row.month (frozen_months rs) ≤ 9
  judged_few = subst (λ k. revision_to_give k (frozen_months rs) ≤ 9) (sym judged_month)
      (few_revisions month (option_map (λ r. r.publishes) (row_by_number (λ r. r.month) month calendar))
      (frozen_months rs) free.0)
