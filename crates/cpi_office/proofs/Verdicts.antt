-- What becomes of a request holds of the office: a change that is made fits, and one that stands is there.
use Rattle.std.proofs.Common.{◌≡◌, ℕ, ◌≤◌, ◌+◌, ◌-◌, Bool, true, false, List, Some, None, Option, Result, Ok, Err, refl}
use Rattle.std.proofs.Common.{sym, ap, ◌∙◌, subst, arith}
use Rattle.std.specs.Prelude.{IsSome, nat_lt, nat_le, is_none, option_map, not, ◌&&◌, ◌==◌}
use Rattle.std.specs.Ordering.{nat_cmp}
use Rattle.std.proofs.lemmas.Bool.{false≢true, leb-true, ltb-true, eqb-true}
use Rattle.std.proofs.lemmas.Map.Lookups.{exact_pairs, exact_unsigned}
use Rattle.cpi_rows.proofs.Truth.{and_both, not_false}
use Rattle.cpi_rows.specs.Keyed.{row_by_number, row_at, IsInOrder}
use Rattle.cpi_rows.specs.Held.{held_by}
use Rattle.cpi_rows.proofs.Found.{row_key, at_key, at_map}
use Rattle.cpi_survey.specs.Quote.{QuoteRow, quote_cmp, quote_key}
use Rattle.cpi_survey.specs.Entry.{EntryRow}
use Rattle.cpi_survey.specs.Assignment.{is_active}
use Rattle.cpi_survey.specs.Decision.{entry_decision, in_slot, over_quote, in_month, in_window, once_checked}
use Rattle.cpi_survey.specs.Decision.{with_receipt}
use Rattle.cpi_survey.specs.Mark.{is_same_mark}
use Rattle.cpi_store.specs.Outlet.{with_name, same_outlet}
use Rattle.cpi_plan.specs.Items.{same_item}
use Rattle.cpi_plan.specs.Plan.{Plan}
use Rattle.cpi_plan.specs.Planned.{plan_or_fault}
use Rattle.cpi_plan.specs.SamePlan.{same_plan}
use Rattle.cpi_plan.specs.declared.plan_faults.PlanFault.{PlanFault}
use Rattle.cpi_plan.proofs.SamePlans.{plan_decides}
use Rattle.cpi_plan.specs.Calendar.{same_calendar, CalendarPart}
use Rattle.cpi_store.specs.Registration.{same_registration, registration_of}
use Rattle.cpi_plan.specs.declared.items.Item.{Item}
use Rattle.cpi_store.specs.declared.registration.Registration.{Registration}
use Rattle.cpi_store.specs.declared.outlet.Outlet.{Outlet}
use Rattle.cpi_survey.specs.declared.assignment.Assignment.{Assignment}
use Rattle.cpi_survey.specs.declared.assignment.Assigned.{Assigned}
use Rattle.cpi_survey.specs.declared.decision.Decision.{Decision}
use Rattle.cpi_survey.specs.declared.limits.TheConstants.{LAST_RECEIPT}
use Rattle.cpi_survey.specs.declared.refusal.Refusal.{Refusal as EntryRefusal}
use Rattle.cpi_survey.specs.Within.{has_quotes_since}
use Rattle.cpi_store.specs.Office.{Office, Change, PutsPlan, PutsCalendar, HandsOver, own_part, assignments_by}
use Rattle.cpi_store.specs.Office.{public_part, given_until}
use Rattle.cpi_store.specs.Series.{first_of_series, same_series}
use Rattle.cpi_store.specs.declared.given.Given.{Given}
use Rattle.cpi_store.proofs.Changes.{IsHandover}
use Rattle.cpi_codes.specs.declared.series.SeriesId.{SeriesId}
use Rattle.cpi_codes.specs.declared.codes.Code.{Code}
use Rattle.cpi_codes.specs.declared.limits.TheConstants.{GREATEST_SLOT}
use Rattle.cpi_index.specs.declared.fault.IndexFault.{IndexFault}
use Rattle.cpi_release.specs.FrozenMonths.{frozen_months, last_frozen, keeps_frozen, has_year_frozen, is_next_month}
use Rattle.cpi_release.specs.FrozenMonths.{plan_for}
use Rattle.cpi_release.specs.FrozenMonths.{lacks_plan}
use Rattle.cpi_release.specs.Releasing.{fault_of}
use Rattle.cpi_office.specs.Freezing.{has_unweighed, row_judged, frozen_with, judged_release, release_verdict}
use Rattle.cpi_office.specs.Freezing.{freeze_verdict, verdict_of_freeze}
use Rattle.cpi_store.specs.Sound.{IsWellMade, HasNodesInOrder}
use Rattle.cpi_plan.proofs.PlanNodes.{planned_nodes}
use Rattle.cpi_office.specs.declared.request.NewAssignment.{NewAssignment}
use Rattle.cpi_office.specs.declared.request.HandOver.{HandOver}
use Rattle.cpi_office.specs.declared.refusal.Refusal.{Refusal}
use Rattle.cpi_office.specs.declared.refusal.Refusal.TheVariants.{PlanFrozen, MonthFrozen}
use Rattle.cpi_office.specs.Projections.{view, own_view}
use Rattle.cpi_office.specs.Verdicts.{Verdict, Stands, Makes}
use Rattle.cpi_office.specs.Standing.{standing}
use Rattle.cpi_office.specs.Assigning.{assigned_in, to_collector, standing_for, assignment_verdict, assignment_sent}
use Rattle.cpi_office.specs.Assigning.{same_given}
use Rattle.cpi_office.specs.Assigning.{may_be_assigned}
use Rattle.cpi_office.specs.HandingOver.{is_takeable, handed_over, over_collectors, over_slots, over_free}
use Rattle.cpi_office.specs.HandingOver.{over_standing, over_judged, stands_over, is_handed_within, is_not_after}
use Rattle.cpi_office.specs.HandingOver.{handover_of, taken_on}
use Rattle.cpi_office.specs.Replacing.{unless_frozen, replacement_verdict, calendar_put, sent_body, plan_standing}
use Rattle.cpi_office.specs.Replacing.{plan_put}
use Rattle.cpi_office.specs.Desk.{item_put, outlet_put, registration_verdict, command_verdict}
use Rattle.cpi_office.specs.Entries.{of_collector, decision_verdict, entry_verdict, quote_of_entry}
use Rattle.cpi_office.specs.Runs.{request_verdict}
use Rattle.cpi_office.specs.declared.request.Request.{Request}
use Rattle.cpi_office.specs.declared.request.Request.TheVariants as request
use Rattle.cpi_office.specs.declared.caller.Caller.{Caller}
use Rattle.cpi_office.specs.declared.caller.Caller.TheVariants as caller
use Rattle.cpi_office.proofs.Accepted.{Holds}
use Rattle.cpi_office.proofs.Failures.{if_holds}
use Rattle.cpi_store.proofs.Released.{none_follows}
use Rattle.cpi_office.proofs.Registrations.{registration_listed}
use Rattle.cpi_office.proofs.Same.{item_equal, calendar_equal, registration_equal, given_equal, series_equal}
use Rattle.cpi_office.proofs.Same.{mark_equal, outlet_equal}

module _ (o : Office) where
  abbrev Fair : Verdict → Type 0
  Fair v = Holds (Some v) o

  item_fair : (i : Item) (w : Option Item) → row_by_number (λ i. i.code) i.code o.items ≡ w → Fair (item_put i w)
  item_fair i None e = e
  item_fair i (Some old) e = cases (same_item old i) refl
    where
      cases : (t : Bool) → same_item old i ≡ t → Fair (item_put i (Some old))
      cases true f = rw f (e ∙ ap Some (item_equal old i f))
      cases false f = rw f tt

  outlet_fair : (u : Outlet) (w : Option Outlet) → row_by_number (λ u. u.number) u.number o.outlets ≡ w → Fair
      (outlet_put u w)
  outlet_fair u None e = e
  outlet_fair u (Some old) e = cases (same_outlet old u) refl
    where
      cases : (t : Bool) → same_outlet old u ≡ t → Fair (outlet_put u (Some old))
      cases true f = rw f (e ∙ ap Some (outlet_equal old u f))
      cases false f = rw f tt

  -- what may be put unless it was frozen
  unless_fair : (frozen : Bool) (f : Refusal) (c : Change) → (frozen ≡ false → Fair (Makes c)) →
      Fair (unless_frozen frozen f c)
  unless_fair true f c fair = tt
  unless_fair false f c fair = fair refl

  calendar_fair : (r : CalendarPart) (w : Option CalendarPart) → row_by_number (λ r. r.month) r.month o.calendar ≡ w →
      Fair (calendar_put (frozen_months o.releases) r w)
  calendar_fair r None e = unless_fair _ _ _ (λ free. tt)
  calendar_fair r (Some old) e = cases (same_calendar old r) refl
    where
      cases : (t : Bool) → same_calendar old r ≡ t → Fair (calendar_put (frozen_months o.releases) r (Some old))
      cases true f = rw f (e ∙ ap Some (calendar_equal old r f))
      cases false f = rw f (unless_fair (keeps_frozen r.month (Some r.publishes) (frozen_months o.releases)) MonthFrozen
          (PutsCalendar r) (λ free. tt))

  plan_fair : (p : Plan) (w : Option Plan) → HasNodesInOrder p → row_by_number (λ y. y.year) p.year o.plans ≡ w →
      Fair (replacement_verdict (has_year_frozen p.year (frozen_months o.releases)) PlanFrozen (PutsPlan p)
      (standing same_plan p w))
  plan_fair p None nodes e = unless_fair _ _ _ (λ free. (free, nodes))
  plan_fair p (Some old) nodes e = cases (same_plan old p) refl
    where
      cases : (t : Bool) → same_plan old p ≡ t → Fair
          (replacement_verdict (has_year_frozen p.year (frozen_months o.releases))
          PlanFrozen (PutsPlan p) (standing same_plan p (Some old)))
      cases true f = rw f (e ∙ ap Some ((plan_decides old p).0 f))
      cases false f = rw f (unless_fair (has_year_frozen p.year (frozen_months o.releases)) PlanFrozen (PutsPlan p)
          (λ free. (free, nodes)))

  planned_fair : (r : Result Plan PlanFault) → ((p : Plan) → r ≡ Ok p → HasNodesInOrder p) →
      Fair (plan_put (frozen_months o.releases) (plan_standing o.plans r))
  planned_fair (Err fault) nodes = tt
  planned_fair (Ok p) nodes = plan_fair p (row_by_number (λ y. y.year) p.year o.plans) (nodes p refl) refl

  registered_fair : (b : Registration) (w v : Option Registration) →
      row_by_number (λ b. b.number) b.number o.collectors ≡ w → registration_of b.key o.collectors ≡ v →
      Fair (registration_verdict b w v)
  registered_fair b None None e f = (e, f)
  registered_fair b None (Some other) e f = tt
  registered_fair b (Some old) v e f = if_holds Fair (same_registration old b) _ _
      (λ same. e ∙ ap Some (registration_equal old b same)) (λ other. tt)

  abbrev in_slot_of : ℕ → ℕ → Option Given
  in_slot_of n slot = row_by_number (λ (g : Given). g.assignment.slot) slot (held_by n o.assignments)

  -- who is found by a number has it
  number_is : (n : ℕ) (b : Registration) → row_by_number (λ b. b.number) n o.collectors ≡ Some b → b.number ≡ n
  number_is n b e = at_key (λ b. b.number) n b o.collectors e

  found_itself : (n : ℕ) (b : Registration) → row_by_number (λ b. b.number) n o.collectors ≡ Some b →
      row_by_number (λ b. b.number) b.number o.collectors ≡ Some b
  found_itself n b e = ap (λ k. row_by_number (λ b. b.number) k o.collectors) (number_is n b e) ∙ e

  module _ (n : ℕ) (x : Assignment) (made : IsWellMade (n, x)) where
    to_collector_fair : (w : Option Registration) → row_by_number (λ b. b.number) n o.collectors ≡ w → in_slot_of n
        x.slot ≡ None →
        IsSome (row_by_number (λ u. u.number) x.outlet o.outlets) → IsSome
        (row_by_number (λ i. i.code) x.item o.items) →
        Fair (to_collector (with_name o.outlets x) w)
    to_collector_fair None e free outlet item = tt
    to_collector_fair (Some b) e free outlet item =
        let same = number_is n b e in (
          ap (λ k. in_slot_of k x.slot) same ∙ free,
          found_itself n b e,
          outlet,
          item,
          refl,
          subst (λ k. IsWellMade (k, x)) (sym same) made,
        )

    standing_fair : (w : Option Registration) → row_by_number (λ b. b.number) n o.collectors ≡ w →
        in_slot_of n x.slot ≡ Some (first_of_series n x) → Fair (standing_for (with_name o.outlets x) w)
    standing_fair None e there = tt
    standing_fair (Some b) e there =
        let same = number_is n b e in (
          ap (λ k. in_slot_of k x.slot) same ∙ there ∙ ap (λ k. Some (first_of_series k x)) (sym same),
          found_itself n b e,
          refl,
        )

    known : {X : Type 0} (w : Option X) → is_none w ≡ false → IsSome w
    known None e = absurd (false≢true (sym e))
    known (Some y) e = refl

    assigned_fair : (w : Option Registration) (v : Option Given) → row_by_number (λ b. b.number) n o.collectors ≡ w →
        in_slot_of n x.slot ≡ v →
        Fair (assignment_verdict (with_name o.outlets x) (row_by_number (λ i. i.code) x.item o.items)
        (row_by_number (λ u. u.number) x.outlet o.outlets) w (standing same_given (first_of_series n x) v))
    assigned_fair w None e free =
        if_holds Fair (is_none (row_by_number (λ i. i.code) x.item o.items)) _ _ (λ miss. tt) (λ item.
        if_holds Fair (is_none (row_by_number (λ u. u.number) x.outlet o.outlets)) _ _ (λ miss. tt) (λ outlet.
        to_collector_fair w e free (known (row_by_number (λ u. u.number) x.outlet o.outlets) outlet)
        (known (row_by_number (λ i. i.code) x.item o.items) item)))
    assigned_fair w (Some old) e there = cases (same_given old (first_of_series n x)) refl
      where
        cases : (t : Bool) → same_given old (first_of_series n x) ≡ t →
            Fair (assignment_verdict (with_name o.outlets x) (row_by_number (λ i. i.code) x.item o.items)
            (row_by_number (λ u. u.number) x.outlet o.outlets) w (standing same_given (first_of_series n x) (Some old)))
        cases true f = rw f (standing_fair w e (there ∙ ap Some (given_equal old (first_of_series n x) f)))
        cases false f = rw f tt

  -- ---- an assignment that is sent

  well_made : (n : ℕ) (p : NewAssignment) → may_be_assigned n p ≡ true → IsWellMade (n, assignment_sent p)
  well_made n p e =
      let last = and_both (nat_le p.first_month p.last_month && nat_le 1 n && nat_le 1 p.slot)
      (nat_le p.slot GREATEST_SLOT) e in
      let slot = and_both (nat_le p.first_month p.last_month && nat_le 1 n) (nat_le 1 p.slot) last.0 in
      let number = and_both (nat_le p.first_month p.last_month) (nat_le 1 n) slot.0 in
      record {
        months = leb-true p.first_month p.last_month number.0;
        collector = leb-true 1 n number.1;
        slot = (leb-true 1 p.slot slot.1, leb-true p.slot GREATEST_SLOT last.1);
      }

  placed_fair : (n : ℕ) (p : NewAssignment) → Fair (assigned_in n p o)
  placed_fair n p =
      if_holds Fair (may_be_assigned n p) _ _ (λ e.
      assigned_fair n (assignment_sent p) (well_made n p e) (row_by_number (λ b. b.number) n o.collectors)
      (in_slot_of n p.slot) refl refl) (λ e. tt)

  -- ---- a hand-over that is sent

  module _ (h : HandOver) (takeable : is_takeable h ≡ true) (b c : Registration)
      (from : row_by_number (λ b. b.number) h.from o.collectors ≡ Some b)
      (to : row_by_number (λ b. b.number) h.to o.collectors ≡ Some c)
      (former : Given) (has : in_slot_of b.number h.slot ≡ Some former) where
    former_slot : former.assignment.slot ≡ h.slot
    former_slot = at_key (λ (g : Given). g.assignment.slot) h.slot former (held_by b.number o.assignments) has

    former_found : in_slot_of b.number former.assignment.slot ≡ Some former
    former_found = ap (in_slot_of b.number) former_slot ∙ has

    over_free_fair : in_slot_of c.number h.new_slot ≡ None → Fair (over_free h o b c former)
    over_free_fair free =
        if_holds Judged (not (is_handed_within h former.assignment)) _ _ (λ e. tt) (λ within.
        if_holds Judged (is_not_after h.month (last_frozen (frozen_months o.releases))) _ _ (λ e. tt) (λ e.
        if_holds Judged (has_quotes_since h.slot h.month (held_by b.number o.quotes)) _ _ (λ e. tt) (λ unquoted.
        (over within unquoted, found_itself h.from b from, found_itself h.to c to, refl))))
      where
        Judged : Result Assignment Refusal → Type 0
        Judged r = Fair (over_judged h o b c former r)

        over : not (is_handed_within h former.assignment) ≡ false →
            has_quotes_since h.slot h.month (held_by b.number o.quotes) ≡ false →
            IsHandover o.assignments o.quotes (handover_of h b c former
            (taken_on h former.assignment (held_by b.number o.quotes)) o)
        over within unquoted =
            let months = and_both (nat_lt former.assignment.first_month h.month)
            (nat_le h.month former.assignment.last_month) (not_false (is_handed_within h former.assignment) within) in
            let last = and_both (nat_le 1 h.to && nat_le 1 h.new_slot) (nat_le h.new_slot GREATEST_SLOT) takeable in
            let first = and_both (nat_le 1 h.to) (nat_le 1 h.new_slot) last.0 in
            record {
              former = former;
              found = former_found;
              ended = refl;
              after_first = ltb-true former.assignment.first_month h.month months.0;
              until_last = leb-true h.month former.assignment.last_month months.1;
              last = refl;
              item = refl;
              outlet = refl;
              new = free;
              taker = subst (λ n. 1 ≤ n) (sym (number_is h.to c to)) (leb-true 1 h.to first.0);
              slot = (leb-true 1 h.new_slot first.1, leb-true h.new_slot GREATEST_SLOT last.1);
              unquoted = ap (λ k. has_quotes_since k h.month (held_by b.number o.quotes)) former_slot ∙ unquoted;
            }

    over_standing_fair : (new : Given) → in_slot_of c.number h.new_slot ≡ Some new →
        Fair (over_standing h o b c former new)
    over_standing_fair new there = if_holds Fair (stands_over h former new) _ _ stands (λ e. tt)
      where
        over_as : Assignment → SeriesId → Given
        over_as a s = record { assignment = a; series = s }

        stands : stands_over h former new ≡ true → Fair (Stands (HandsOver (handover_of h b c former new.assignment o)))
        stands e =
            let last = and_both (same_series new.series former.series && new.assignment.first_month == h.month)
            (former.assignment.last_month + 1 == h.month) e in
            let first = and_both (same_series new.series former.series) (new.assignment.first_month == h.month)
            last.0 in
            let next : former.assignment.last_month + 1 ≡ h.month =
            eqb-true (former.assignment.last_month + 1) h.month last.1 in
            let month : former.assignment.last_month ≡ h.month - 1 = omega (arith, next) in
            let ended : former ≡ given_until (h.month - 1) former = ap (λ m. given_until m former) month in
            let new_slot : new.assignment.slot ≡ h.new_slot = at_key (λ (g : Given). g.assignment.slot) h.new_slot new
            (held_by c.number o.assignments) there in (
              former_found ∙ ap Some ended,
              ap (in_slot_of c.number) new_slot ∙ there ∙ ap (λ s. Some (over_as new.assignment s))
                  (series_equal new.series former.series first.0),
              found_itself h.from b from,
              found_itself h.to c to,
              refl,
            )

    over_new_fair : (w : Option Given) → in_slot_of c.number h.new_slot ≡ w → Fair (over_slots h o b c (Some former) w)
    over_new_fair None e = over_free_fair e
    over_new_fair (Some new) e = over_standing_fair new e

  over_slots_fair : (h : HandOver) → is_takeable h ≡ true → (b c : Registration) →
      row_by_number (λ b. b.number) h.from o.collectors ≡ Some b → row_by_number (λ b. b.number) h.to o.collectors
      ≡ Some c →
      (w : Option Given) → in_slot_of b.number h.slot ≡ w → Fair (over_slots h o b c w (in_slot_of c.number h.new_slot))
  over_slots_fair h takeable b c from to None e = tt
  over_slots_fair h takeable b c from to (Some former) e =
      over_new_fair h takeable b c from to former e (in_slot_of c.number h.new_slot) refl

  over_collectors_fair : (h : HandOver) → is_takeable h ≡ true → (w v : Option Registration) →
      row_by_number (λ b. b.number) h.from o.collectors ≡ w → row_by_number (λ b. b.number) h.to o.collectors ≡ v →
      Fair (over_collectors h o w v)
  over_collectors_fair h takeable None v from to = tt
  over_collectors_fair h takeable (Some b) None from to = tt
  over_collectors_fair h takeable (Some b) (Some c) from to =
      over_slots_fair h takeable b c from to (in_slot_of b.number h.slot) refl

  handed_fair : (h : HandOver) → Fair (handed_over h o)
  handed_fair h =
      if_holds Fair (is_takeable h) _ _
      (λ e. over_collectors_fair h e (row_by_number (λ b. b.number) h.from o.collectors)
      (row_by_number (λ b. b.number) h.to o.collectors) refl refl) (λ e. tt)

  -- ---- a freeze

  module _ (now : ℕ) (carry : List Code) where
    release_fair : (row : CalendarPart) → is_next_month row.month (frozen_months o.releases) ≡ true →
        lacks_plan o.plans (frozen_months o.releases) row.month ≡ false →
        Fair (release_verdict (judged_release now carry o row))
    release_fair row follows planned = cases (fault_of (plan_for o.plans (frozen_months o.releases) row.month)
        o.releases
        (frozen_with now row carry o)) refl
      where
        cases : (w : Option IndexFault) → fault_of (plan_for o.plans (frozen_months o.releases) row.month) o.releases
            (frozen_with now row carry o) ≡ w → Fair (release_verdict (judged_release now carry o row))
        cases (Some fault) e = rw e tt
        cases None e = rw e (
          λ sorted. none_follows row.month o.releases sorted follows,
          record { follows = follows; revision = refl; planned = planned; faultless = e; computed = refl },
          refl,
        )

    abbrev Fairly : Result CalendarPart Refusal → Type 0
    Fairly judged = Fair (freeze_verdict (judged_release now carry o) judged)

    row_fair : (month : ℕ) (w : Option CalendarPart) → row_by_number (λ r. r.month) month o.calendar ≡ w →
        is_next_month month (frozen_months o.releases) ≡ true →
        Fairly (row_judged now o.plans (frozen_months o.releases) carry w)
    row_fair month None e follows = tt
    row_fair month (Some row) e follows =
        let same : row.month ≡ month = at_key (λ r. r.month) month row o.calendar e in
        if_holds Fairly (nat_lt now row.closes) _ _ (λ f. tt) (λ f.
        if_holds Fairly (lacks_plan o.plans (frozen_months o.releases) row.month) _ _ (λ f. tt) (λ planned.
        if_holds Fairly (has_unweighed (plan_for o.plans (frozen_months o.releases) row.month) carry) _ _ (λ f. tt)
        (λ f.
        release_fair row (ap (λ k. is_next_month k (frozen_months o.releases)) same ∙ follows) planned)))

    frozen_fair : (month : ℕ) → Fair (verdict_of_freeze now month carry o)
    frozen_fair month =
        if_holds Fairly (keeps_frozen month (option_map (λ r. r.publishes)
        (row_by_number (λ r. r.month) month o.calendar))
        (frozen_months o.releases)) _ _ (λ e. tt) (λ e.
        if_holds Fairly (not (is_next_month month (frozen_months o.releases))) _ _ (λ f. tt) (λ f.
        row_fair month (row_by_number (λ r. r.month) month o.calendar) refl
        (not_false (is_next_month month (frozen_months o.releases)) f)))

  -- ---- an entry

  module _ (b : Registration) (found : row_by_number (λ b. b.number) b.number o.collectors ≡ Some b) (entry : EntryRow)
      (g : Given)
      (has : in_slot_of b.number entry.slot ≡ Some g) where
    abbrev Meets : Result Decision EntryRefusal → Type 0
    Meets d = Holds (Some (decision_verdict b entry d)) o

    receipt_meets : is_active entry.month g.assignment ≡ true → (greatest : ℕ) → Meets (with_receipt entry greatest)
    receipt_meets active greatest = if_holds Meets (nat_le LAST_RECEIPT greatest) _ _ (λ e. tt)
        (λ e. (found, (g, has, active)))

    checked_meets : is_active entry.month g.assignment ≡ true →
        (check : Result (Unit {0}) EntryRefusal) (greatest : ℕ) → Meets (once_checked entry check greatest)
    checked_meets active (Ok _) greatest = receipt_meets active greatest
    checked_meets active (Err f) greatest = tt

    window_meets : (now : ℕ) (row : CalendarPart) (check : Result (Unit {0}) EntryRefusal) (greatest : ℕ) →
        Meets (in_window now entry row g.assignment check greatest)
    window_meets now row check greatest =
        if_holds Meets (is_active entry.month g.assignment) _ _ (λ active.
        if_holds Meets (nat_lt now row.opens) _ _ (λ e. tt) (λ e.
        if_holds Meets (nat_le row.closes now) _ _ (λ e. tt) (λ e. checked_meets active check greatest))) (λ e. tt)

    month_meets : (now : ℕ) (row : Option CalendarPart) (check : Result (Unit {0}) EntryRefusal) (greatest : ℕ) →
        Meets (in_month now entry row g.assignment check greatest)
    month_meets now None check greatest = tt
    month_meets now (Some row) check greatest = window_meets now row check greatest

    -- the stored quote is the entry with its receipt
    again_is : (q : QuoteRow) → row_at quote_cmp quote_key (entry.slot, entry.month)
        (held_by b.number o.quotes) ≡ Some q → is_same_mark q.mark entry.mark ≡ true →
        row_at quote_cmp quote_key (entry.slot, entry.month) (held_by b.number o.quotes) ≡ Some
        (quote_of_entry entry q.receipt)
    again_is q stored same =
        let keys : (q.slot, q.month) ≡ (entry.slot, entry.month) =
        exact_pairs nat_cmp nat_cmp exact_unsigned exact_unsigned (q.slot, q.month) (entry.slot, entry.month)
        (row_key quote_cmp quote_key (entry.slot, entry.month) q (held_by b.number o.quotes) stored) in
        let marks = mark_equal q.mark entry.mark same in
        let is : q ≡ quote_of_entry entry q.receipt = λ n. record {
          slot = (keys n).0;
          month = (keys n).1;
          mark =
              marks n;
          receipt = q.receipt;
        } in
        stored ∙ ap Some is

    over_meets : (now : ℕ) (row : Option CalendarPart) (q : Option QuoteRow) (check : Result (Unit {0}) EntryRefusal)
        (greatest : ℕ) →
        row_at quote_cmp quote_key (entry.slot, entry.month) (held_by b.number o.quotes) ≡ q →
        Meets (over_quote now entry row g.assignment q check greatest)
    over_meets now row None check greatest stored = month_meets now row check greatest
    over_meets now row (Some q) check greatest stored =
        if_holds Meets (is_same_mark q.mark entry.mark) _ _ (λ same. (found, again_is q stored same))
        (λ other. month_meets now row check greatest)

  module _ (b : Registration) (found : row_by_number (λ b. b.number) b.number o.collectors ≡ Some b) (now : ℕ)
      (entry : EntryRow) where
    abbrev Slotted : Option Assigned → Type 0
    Slotted a = Holds (Some (decision_verdict b entry (in_slot now entry (public_part o) a (own_part b.number o)))) o

    slot_meets : (w : Option Given) → in_slot_of b.number entry.slot ≡ w →
        Slotted (option_map (with_name o.outlets) (option_map (λ (g : Given). g.assignment) w))
    slot_meets None e = tt
    slot_meets (Some g) e = over_meets b found entry g e now _ _ _ _ refl

    decided_meets : Holds (Some (decision_verdict b entry
        (entry_decision now entry (public_part o) (own_part b.number o)))) o
    decided_meets = subst Slotted (sym named) (slot_meets (in_slot_of b.number entry.slot) refl)
      where
        named : row_by_number (λ a. a.assignment.slot) entry.slot (own_part b.number o).assignments ≡ option_map
            (with_name o.outlets) (option_map (λ (g : Given). g.assignment) (in_slot_of b.number entry.slot))
        named = at_map (with_name o.outlets) (λ (a : Assigned). a.assignment.slot) entry.slot
            (assignments_by b.number o)
            ∙ ap (option_map (with_name o.outlets)) (at_map (λ (g : Given). g.assignment)
            (λ (a : Assignment). a.slot) entry.slot (held_by b.number o.assignments))

entered_holds : (o : Office) → IsInOrder nat_cmp (λ b. b.number) o.collectors → (key now : ℕ) (entry : EntryRow) →
    Holds (of_collector key now (request.Submit entry) (view (caller.Collector key) now o)) o
entered_holds o s key now entry = cases (registration_of key o.collectors) refl
  where
    cases : (w : Option Registration) → registration_of key o.collectors ≡ w →
        Holds (entry_verdict key now entry (view (caller.Collector key) now o) (option_map (own_view o) w)) o
    cases None e = tt
    cases (Some b) e =
        let listed = registration_listed key b o.collectors s e in
        subst (λ k. Holds (Some (decision_verdict (record { number = b.number; key = k }) entry
        (entry_decision now entry (public_part o) (own_part b.number o)))) o) listed.key_is
        (decided_meets o b listed.found now entry)

module _ (now : ℕ) (o : Office) where
  command_holds : (r : Request) → Holds (command_verdict now r o) o
  command_holds (request.PutItem i) = item_fair o i (row_by_number (λ i. i.code) i.code o.items) refl
  command_holds (request.PutPlan year body) = planned_fair o (plan_or_fault year (sent_body o.items body))
      (planned_nodes year (sent_body o.items body))
  command_holds (request.PutCalendar row) = calendar_fair o row (row_by_number (λ r. r.month) row.month o.calendar) refl
  command_holds (request.Register b) = registered_fair o b (row_by_number (λ b. b.number) b.number o.collectors)
      (registration_of b.key o.collectors) refl refl
  command_holds (request.PutOutlet u) = outlet_fair o u (row_by_number (λ u. u.number) u.number o.outlets) refl
  command_holds (request.Assign n a) = placed_fair o n a
  command_holds (request.HandOver h) = handed_fair o h
  command_holds (request.Freeze month carry) = frozen_fair o now carry month
  command_holds request.Tables = tt
  command_holds (request.Table month form edition) = tt
  command_holds request.Items = tt
  command_holds (request.Work month) = tt
  command_holds (request.Quotes first last) = tt
  command_holds (request.Submit entry) = tt

  collector_holds : IsInOrder nat_cmp (λ b. b.number) o.collectors → (key : ℕ) (r : Request) →
      Holds (of_collector key now r (view (caller.Collector key) now o)) o
  collector_holds s key (request.Submit entry) = entered_holds o s key now entry
  collector_holds s key (request.PutItem i) = tt
  collector_holds s key (request.PutPlan year body) = tt
  collector_holds s key (request.PutCalendar row) = tt
  collector_holds s key (request.Register b) = tt
  collector_holds s key (request.PutOutlet u) = tt
  collector_holds s key (request.Assign n a) = tt
  collector_holds s key (request.HandOver h) = tt
  collector_holds s key request.Items = tt
  collector_holds s key request.Tables = tt
  collector_holds s key (request.Table month form edition) = tt
  collector_holds s key (request.Freeze month carry) = tt
  collector_holds s key (request.Work month) = tt
  collector_holds s key (request.Quotes first last) = tt

  pub verdict_holds : IsInOrder nat_cmp (λ b. b.number) o.collectors → (k : Caller) (r : Request) → Holds (request_verdict now k r o) o
  verdict_holds s caller.Public r = tt
  verdict_holds s caller.Desk r = command_holds r
  verdict_holds s (caller.Collector key) r = collector_holds s key r
