-- What a request changes is one row that it asked for.
use Rattle.std.proofs.Common.{◌≡◌, ℕ, ◌≤◌, Bool, true, false, List, [], length, Some, None, Option, Result, Ok, Err}
use Rattle.std.proofs.Common.{refl, sym, ap, subst, arith, inl, inr}
use Rattle.std.specs.Prelude.{nat_lt, nat_le, is_none, option_map, not, ◌&&◌, ◌==◌, ◌+◌}
use Rattle.std.proofs.lemmas.Bool.{eqb-true}
use Rattle.cpi_rows.proofs.Truth.{and_both}
use Rattle.cpi_store.specs.Series.{same_series}
use Rattle.std.specs.List.{AllByRecursion}
use Rattle.cpi_rows.specs.Keyed.{row_by_number}
use Rattle.cpi_rows.specs.Held.{held_by}
use Rattle.cpi_rows.proofs.Found.{at_key}
use Rattle.cpi_codes.specs.declared.codes.Code.{Code}
use Rattle.cpi_plan.specs.Plan.{Plan}
use Rattle.cpi_plan.specs.Planned.{plan_or_fault}
use Rattle.cpi_plan.specs.SamePlan.{same_plan}
use Rattle.cpi_plan.specs.declared.plan_faults.PlanFault.{PlanFault}
use Rattle.cpi_plan.specs.Calendar.{CalendarPart}
use Rattle.cpi_survey.specs.Quote.{QuoteRow}
use Rattle.cpi_survey.specs.Public.{PublicPart}
use Rattle.cpi_survey.specs.Own.{OwnPart}
use Rattle.cpi_survey.specs.Entry.{EntryRow}
use Rattle.cpi_survey.specs.Decision.{in_slot, over_quote, in_month, once_checked}
use Rattle.cpi_survey.specs.Assignment.{is_active}
use Rattle.cpi_survey.specs.Mark.{is_same_mark}
use Rattle.cpi_survey.specs.declared.assignment.Assignment.{Assignment}
use Rattle.cpi_survey.specs.declared.assignment.Assigned.{Assigned}
use Rattle.cpi_survey.specs.declared.decision.Decision.{Decision}
use Rattle.cpi_survey.specs.declared.limits.TheConstants.{LAST_RECEIPT}
use Rattle.cpi_survey.specs.declared.refusal.Refusal.{Refusal as EntryRefusal}
use Rattle.cpi_index.specs.declared.fault.IndexFault.{IndexFault}
use Rattle.cpi_release.specs.Releasing.{fault_of}
use Rattle.cpi_release.specs.FrozenMonths.{frozen_months, keeps_frozen, is_next_month, lacks_plan, plan_for, has_year_frozen}
use Rattle.cpi_store.specs.Office.{Office, Change, PutsItem, PutsPlan, PutsCalendar, PutsOutlet}
use Rattle.cpi_store.specs.Registration.{same_registration}
use Rattle.cpi_store.specs.Outlet.{with_name}
use Rattle.cpi_store.specs.Sound.{IsSound}
use Rattle.cpi_store.specs.declared.registration.Registration.{Registration}
use Rattle.cpi_store.specs.declared.given.Given.{Given}
use Rattle.cpi_office.specs.Assigning as assigning
use Rattle.cpi_office.specs.HandingOver as over
use Rattle.cpi_office.specs.Replacing as replacing
use Rattle.cpi_office.specs.Freezing as freezing
use Rattle.cpi_office.specs.Standing.{put_once, standing}
use Rattle.cpi_office.specs.Desk.{registration_verdict, command_verdict}
use Rattle.cpi_office.specs.Entries.{of_collector, entry_verdict, decision_verdict}
use Rattle.cpi_office.specs.Projections.{OwnView, View, view}
use Rattle.cpi_office.specs.Calls.{ServesWhere, IsServed}
use Rattle.cpi_release.specs.State.{State}
use Rattle.cpi_office.specs.declared.reply.Reply.{Reply}
use Rattle.cpi_office.specs.declared.request.Ask.{Ask}
use Rattle.cpi_office.specs.Runs.{request_verdict, next, reply_to}
use Rattle.cpi_office.specs.Verdicts.{Verdict, Refuses, Stands, Makes, accepted_changes, after_verdict}
use Rattle.cpi_office.specs.Isolation.{IsFit}
use Rattle.std.proofs.Common.{◌++◌, ◌∷◌, ◌∙◌}
use Rattle.cpi_store.specs.Office.{office_with}
use Rattle.cpi_office.specs.Runs.{after, trace}
use Rattle.cpi_office.specs.Served.{IsRun, all_served}
use Rattle.cpi_office.proofs.RebuiltProjections.{rebuilt, next_sound}
use Rattle.cpi_office.specs.OneChange.{IsAskedBy, ChangesOneRow, AreAskedBy, ChangesRows, OfficesChangeOneRow, office_with_all}
use Rattle.cpi_office.specs.declared.refusal.Refusal.{Refusal}
use Rattle.cpi_office.specs.declared.standing.Standing.{Standing}
use Rattle.cpi_office.specs.declared.standing.Standing.TheVariants.{Free, Same, Other}
use Rattle.cpi_plan.specs.declared.plan_bodies.PlanBody.{PlanBody}
use Rattle.cpi_plan.proofs.PlanNodes.{planned_is}
use Rattle.cpi_survey.specs.Within.{has_quotes_since}
use Rattle.cpi_release.specs.FrozenMonths.{last_frozen}
use Rattle.cpi_office.specs.declared.request.HandOver.{HandOver}
use Rattle.cpi_office.specs.declared.request.NewAssignment.{NewAssignment}
use Rattle.cpi_office.specs.declared.request.Request.{Request}
use Rattle.cpi_office.specs.declared.request.Request.TheVariants as request
use Rattle.cpi_office.specs.declared.caller.Caller.{Caller}
use Rattle.cpi_office.specs.declared.caller.Caller.TheVariants as caller
use Rattle.cpi_office.proofs.Failures.{if_holds}
use Rattle.cpi_office.proofs.Fit.{judged_fit}
use Rattle.cpi_office.proofs.Isolation.{step_shows}

abbrev Asked : Caller → Request → Verdict → Type 0
Asked k r v = AllByRecursion (IsAskedBy k r) (accepted_changes (Some v))

module _ (k : Caller) (r : Request) (c : Change) (asked : IsAskedBy k r c) where
  once_asked : (s : Standing) → Asked k r (put_once c s)
  once_asked Free = (asked, tt)
  once_asked Same = (asked, tt)
  once_asked Other = tt

  unless_asked : (frozen : Bool) (f : Refusal) → Asked k r (replacing.unless_frozen frozen f c)
  unless_asked true f = tt
  unless_asked false f = (asked, tt)

  replaced_asked : (frozen : Bool) (f : Refusal) (s : Standing) → Asked k r (replacing.replacement_verdict frozen f c s)
  replaced_asked frozen f Free = unless_asked frozen f
  replaced_asked frozen f Same = (asked, tt)
  replaced_asked frozen f Other = unless_asked frozen f

registered_asked : (b : Registration) (w v : Option Registration) →
    Asked caller.Desk (request.Register b) (registration_verdict b w v)
registered_asked b None None = (refl, tt)
registered_asked b None (Some other) = tt
registered_asked b (Some old) v =
    if_holds (Asked caller.Desk (request.Register b)) (same_registration old b) _ _ (λ e. (refl, tt)) (λ e. tt)

planned_asked : (year : ℕ) (body : PlanBody) (o : Office) (w : Result Plan PlanFault) →
    plan_or_fault year (replacing.sent_body o.items body) ≡ w →
    Asked caller.Desk (request.PutPlan year body) (replacing.plan_put (frozen_months o.releases)
    (replacing.plan_standing o.plans w))
planned_asked year body o (Err fault) e = tt
planned_asked year body o (Ok p) e =
    replaced_asked caller.Desk (request.PutPlan year body) (PutsPlan p)
    (ap (λ (p : Plan). p.year) (sym (planned_is year (replacing.sent_body o.items body) p e)))
    (has_year_frozen p.year (frozen_months o.releases)) _ (standing same_plan p
    (row_by_number (λ y. y.year) p.year o.plans))

-- ---- an assignment and a hand-over

number_is : (o : Office) (n : ℕ) (b : Registration) → row_by_number (λ b. b.number) n o.collectors ≡ Some b →
    b.number ≡ n
number_is o n b e = at_key (λ b. b.number) n b o.collectors e

module _ (o : Office) (n : ℕ) (p : NewAssignment) where
  abbrev Assigned-by : Verdict → Type 0
  Assigned-by v = Asked caller.Desk (request.Assign n p) v

  abbrev named : Assigned
  named = with_name o.outlets (assigning.assignment_sent p)

  to_asked : (w : Option Registration) → row_by_number (λ b. b.number) n o.collectors ≡ w →
      Assigned-by (assigning.to_collector named w)
  to_asked None e = tt
  to_asked (Some b) e = ((number_is o n b e, refl), tt)

  standing_asked : (w : Option Registration) → row_by_number (λ b. b.number) n o.collectors ≡ w →
      Assigned-by (assigning.standing_for named w)
  standing_asked None e = tt
  standing_asked (Some b) e = ((number_is o n b e, refl), tt)

  slot_asked : (s : Standing) → Assigned-by (assigning.assigned_over s n (assigning.assignment_sent p) o)
  slot_asked Free =
      if_holds Assigned-by (is_none (row_by_number (λ i. i.code) p.item o.items)) _ _ (λ e. tt) (λ e.
      if_holds Assigned-by (is_none (row_by_number (λ u. u.number) p.outlet o.outlets)) _ _ (λ e. tt) (λ e.
      to_asked (row_by_number (λ b. b.number) n o.collectors) refl))
  slot_asked Same = standing_asked (row_by_number (λ b. b.number) n o.collectors) refl
  slot_asked Other = tt

  assigned_asked : Assigned-by (assigning.assigned_in n p o)
  assigned_asked = if_holds Assigned-by (assigning.may_be_assigned n p) _ _ (λ e. slot_asked _) (λ e. tt)

module _ (o : Office) (h : HandOver) where
  abbrev Handed-by : Verdict → Type 0
  Handed-by v = Asked caller.Desk (request.HandOver h) v

  abbrev in_slot_of : ℕ → ℕ → Option Given
  in_slot_of n slot = row_by_number (λ (g : Given). g.assignment.slot) slot (held_by n o.assignments)

  module _ (b c : Registration) (from : row_by_number (λ b. b.number) h.from o.collectors ≡ Some b)
      (to : row_by_number (λ b. b.number) h.to o.collectors ≡ Some c) where
    judged_asked : (former : Given) → in_slot_of b.number h.slot ≡ Some former → (w : Result Assignment Refusal) →
        ((a : Assignment) → w ≡ Ok a → (a.slot ≡ h.new_slot) × (a.first_month ≡ h.month)) →
        Handed-by (over.over_judged h o b c former w)
    judged_asked former has (Err f) asked = tt
    judged_asked former has (Ok a) asked = (
      (
        number_is o h.from b from,
        at_key (λ (g : Given). g.assignment.slot) h.slot former (held_by b.number o.assignments) has,
        refl,
        number_is o h.to c to,
        (asked a refl).0,
        (asked a refl).1,
      ),
      tt,
    )

    slots_asked : (w v : Option Given) → in_slot_of b.number h.slot ≡ w → in_slot_of c.number h.new_slot ≡ v →
        Handed-by (over.over_slots h o b c w v)
    slots_asked None v has there = tt
    slots_asked (Some former) (Some new) has there =
        if_holds Handed-by (over.stands_over h former new) _ _ (λ e. (
          (
            number_is o h.from b from,
            at_key (λ (g : Given). g.assignment.slot) h.slot former (held_by b.number o.assignments) has,
            refl,
            number_is o h.to c to,
            at_key (λ (g : Given). g.assignment.slot) h.new_slot new (held_by c.number o.assignments) there,
            first_is e,
          ),
          tt,
        )) (λ e. tt)
      where
        first_is : over.stands_over h former new ≡ true → new.assignment.first_month ≡ h.month
        first_is e =
            let first = and_both (same_series new.series former.series && new.assignment.first_month == h.month)
            (former.assignment.last_month + 1 == h.month) e in
            eqb-true new.assignment.first_month h.month
            (and_both (same_series new.series former.series) (new.assignment.first_month == h.month) first.0).1
    slots_asked (Some former) None has there = if_holds Judged (not (over.is_handed_within h former.assignment)) _ _
        (λ e. tt) (λ e. if_holds Judged (over.is_not_after h.month (last_frozen (frozen_months o.releases))) _ _
        (λ e. tt) (λ e. if_holds Judged (has_quotes_since h.slot h.month (held_by b.number o.quotes)) _ _ (λ e. tt)
        (λ e. judged_asked former has (Ok (over.taken_on h former.assignment (held_by b.number o.quotes)))
        (λ a is. (ap (λ (a : Assignment). a.slot) (sym (ok_is is)), ap (λ (a : Assignment). a.first_month) (sym (ok_is is)))))))
      where
        Judged : Result Assignment Refusal → Type 0
        Judged w = Handed-by (over.over_judged h o b c former w)

        ok_is : {A E : Type 0} {x y : A} → ◌≡◌ {A = Result A E} (Ok x) (Ok y) → x ≡ y
        ok_is e = cc

  collectors_asked : (w v : Option Registration) → row_by_number (λ b. b.number) h.from o.collectors ≡ w →
      row_by_number (λ b. b.number) h.to o.collectors ≡ v → Handed-by (over.over_collectors h o w v)
  collectors_asked None v from to = tt
  collectors_asked (Some b) None from to = tt
  collectors_asked (Some b) (Some c) from to = slots_asked b c from to (in_slot_of b.number h.slot)
      (in_slot_of c.number h.new_slot) refl refl

  handed_asked : Handed-by (over.handed_over h o)
  handed_asked = if_holds Handed-by (over.is_takeable h) _ _
      (λ e. collectors_asked (row_by_number (λ b. b.number) h.from o.collectors)
      (row_by_number (λ b. b.number) h.to o.collectors) refl refl) (λ e. tt)

-- ---- a freeze

module _ (now : ℕ) (o : Office) (month : ℕ) (carry : List Code) where
  abbrev Frozen-by : Verdict → Type 0
  Frozen-by v = Asked caller.Desk (request.Freeze month carry) v

  made_asked : (row : CalendarPart) → row.month ≡ month →
      Frozen-by (freezing.release_verdict (freezing.judged_release now carry o row))
  made_asked row same = cases (fault_of (plan_for o.plans (frozen_months o.releases) row.month) o.releases
      (freezing.frozen_with now row carry o)) refl
    where
      cases : (w : Option IndexFault) → fault_of (plan_for o.plans (frozen_months o.releases) row.month) o.releases
          (freezing.frozen_with now row carry o) ≡ w →
          Frozen-by (freezing.release_verdict (freezing.judged_release now carry o row))
      cases (Some fault) e = rw e tt
      cases None e = rw e ((same, refl), tt)

  abbrev Judged-by : Result CalendarPart Refusal → Type 0
  Judged-by judged = Frozen-by (freezing.freeze_verdict (freezing.judged_release now carry o) judged)

  row_asked : (w : Option CalendarPart) → row_by_number (λ r. r.month) month o.calendar ≡ w →
      Judged-by (freezing.row_judged now o.plans (frozen_months o.releases) carry w)
  row_asked None e = tt
  row_asked (Some row) e =
      if_holds Judged-by (nat_lt now row.closes) _ _ (λ f. tt) (λ f.
      if_holds Judged-by (lacks_plan o.plans (frozen_months o.releases) row.month) _ _ (λ f. tt) (λ f.
      if_holds Judged-by (freezing.has_unweighed (plan_for o.plans (frozen_months o.releases) row.month) carry) _ _
      (λ f. tt) (λ f. made_asked row (at_key (λ r. r.month) month row o.calendar e))))

  frozen_asked : Frozen-by (freezing.verdict_of_freeze now month carry o)
  frozen_asked =
      if_holds Judged-by (keeps_frozen month (option_map (λ r. r.publishes)
      (row_by_number (λ r. r.month) month o.calendar)) (frozen_months o.releases)) _ _ (λ e. tt) (λ e.
      if_holds Judged-by (not (is_next_month month (frozen_months o.releases))) _ _ (λ f. tt) (λ f.
      row_asked (row_by_number (λ r. r.month) month o.calendar) refl))

-- ---- an entry

module _ (key number : ℕ) (entry : EntryRow) where
  abbrev Decided : Result Decision EntryRefusal → Type 0
  Decided d = Asked (caller.Collector key) (request.Submit entry)
      (decision_verdict (record { number = number; key = key }) entry d)

  checked_asked : (check : Result (Unit {0}) EntryRefusal) (greatest : ℕ) → Decided (once_checked entry check greatest)
  checked_asked (Ok _) greatest =
      if_holds Decided (nat_le LAST_RECEIPT greatest) _ _ (λ e. tt) (λ e. ((refl, refl), tt))
  checked_asked (Err f) greatest = tt

  month_asked : (now : ℕ) (row : Option CalendarPart) (a : Assignment) (check : Result (Unit {0}) EntryRefusal)
      (greatest : ℕ) → Decided (in_month now entry row a check greatest)
  month_asked now None a check greatest = tt
  month_asked now (Some row) a check greatest =
      if_holds Decided (is_active entry.month a) _ _ (λ e.
      if_holds Decided (nat_lt now row.opens) _ _ (λ e. tt) (λ e.
      if_holds Decided (nat_le row.closes now) _ _ (λ e. tt) (λ e. checked_asked check greatest))) (λ e. tt)

  over_asked : (now : ℕ) (row : Option CalendarPart) (a : Assignment) (q : Option QuoteRow)
      (check : Result (Unit {0}) EntryRefusal) (greatest : ℕ) → Decided (over_quote now entry row a q check greatest)
  over_asked now row a None check greatest = month_asked now row a check greatest
  over_asked now row a (Some q) check greatest =
      if_holds Decided (is_same_mark q.mark entry.mark) _ _ (λ e. ((refl, refl), tt))
      (λ e. month_asked now row a check greatest)

  slot_decided : (now : ℕ) (public : PublicPart) (own : OwnPart) (a : Option Assigned) →
      Decided (in_slot now entry public a own)
  slot_decided now public own None = tt
  slot_decided now public own (Some a) = over_asked now _ a.assignment _ _ _

entered_asked : (key now : ℕ) (entry : EntryRow) (v : View) (own : Option OwnView) →
    AllByRecursion (IsAskedBy (caller.Collector key) (request.Submit entry))
    (accepted_changes (entry_verdict key now entry v own))
entered_asked key now entry v None = tt
entered_asked key now entry v (Some own) = slot_decided key own.number entry now v.public own.part _

-- ---- any request

module _ (now : ℕ) (o : Office) where
  command_asked : (r : Request) → AllByRecursion (IsAskedBy caller.Desk r) (accepted_changes (command_verdict now r o))
  command_asked (request.PutItem i) = once_asked caller.Desk (request.PutItem i) (PutsItem i) refl _
  command_asked (request.PutPlan year body) = planned_asked year body o _ refl
  command_asked (request.PutCalendar row) =
      replaced_asked caller.Desk (request.PutCalendar row) (PutsCalendar row) refl _ _ _
  command_asked (request.Register b) = registered_asked b _ _
  command_asked (request.PutOutlet u) = once_asked caller.Desk (request.PutOutlet u) (PutsOutlet u) refl _
  command_asked (request.Assign n a) = assigned_asked o n a
  command_asked (request.HandOver h) = handed_asked o h
  command_asked (request.Freeze month carry) = frozen_asked now o month carry
  command_asked request.Tables = tt
  command_asked (request.Table month form edition) = tt
  command_asked request.Items = tt
  command_asked (request.Work month) = tt
  command_asked (request.Quotes first last) = tt
  command_asked (request.Submit entry) = tt

  collector_asked : (key : ℕ) (r : Request) (v : View) →
      AllByRecursion (IsAskedBy (caller.Collector key) r) (accepted_changes (of_collector key now r v))
  collector_asked key (request.Submit entry) v = entered_asked key now entry v v.own
  collector_asked key (request.PutItem i) v = tt
  collector_asked key (request.PutPlan year body) v = tt
  collector_asked key (request.PutCalendar row) v = tt
  collector_asked key (request.Register b) v = tt
  collector_asked key (request.PutOutlet u) v = tt
  collector_asked key (request.Assign n a) v = tt
  collector_asked key (request.HandOver h) v = tt
  collector_asked key request.Items v = tt
  collector_asked key request.Tables v = tt
  collector_asked key (request.Table month form edition) v = tt
  collector_asked key (request.Freeze month carry) v = tt
  collector_asked key (request.Work month) v = tt
  collector_asked key (request.Quotes first last) v = tt

  verdict_asked : (k : Caller) (r : Request) →
      AllByRecursion (IsAskedBy k r) (accepted_changes (request_verdict now k r o))
  verdict_asked caller.Public r = tt
  verdict_asked caller.Desk r = command_asked r
  verdict_asked (caller.Collector key) r = collector_asked key r (view (caller.Collector key) now o)

one_accepted : (v : Option Verdict) → length (accepted_changes v) ≤ 1
one_accepted None = omega arith
one_accepted (Some (Refuses f)) = omega arith
one_accepted (Some (Stands c)) = omega arith
one_accepted (Some (Makes c)) = omega arith

office_is : (v : Option Verdict) (o : Office) → IsFit v o → after_verdict v o ≡ office_with_all (accepted_changes v) o
office_is None o fit = refl
office_is (Some (Refuses f)) o fit = refl
office_is (Some (Stands c)) o fit = sym fit.1
office_is (Some (Makes c)) o fit = refl

-- a request of a sound office changes one row, which it asked for
pub changes_one : OfficesChangeOneRow
changes_one now k r o s =
    let v = request_verdict now k r o in
    let fit = judged_fit now k r o s.orderly in
    record {
      changes = accepted_changes v;
      asked = verdict_asked now o k r;
      one = one_accepted v;
      office = office_is v o fit;
      views = λ c t. step_shows o s.orderly c t v fit;
    }

-- a request that is served changes one row, and one that is answered 90 none
pub serves_one : (old new : State Office) (reply : Reply) (a : Ask) →
    ServesWhere old new (IsSound old.held) reply (reply_to a.now a.caller a.request old.held) (next a old.held) →
    new.is_clean → IsSound old.held → ChangesOneRow a.caller a.request old.held new.held
serves_one old new reply a serves clean s = cases (serves.served clean s)
  where
    cases : IsServed reply (reply_to a.now a.caller a.request old.held) old.held new.held (next a old.held) →
        ChangesOneRow a.caller a.request old.held new.held
    cases (inl done) = subst (λ u. ChangesOneRow a.caller a.request old.held u) (sym done.1)
        (changes_one a.now a.caller a.request old.held s)
    cases (inr failed) = record {
      changes = [];
      asked = tt;
      one = omega arith;
      office = failed.1;
      views = λ c t. ap (view c t) failed.1;
    }

-- ---- a list of requests

all_with_append : (xs ys : List Change) (o : Office) → office_with_all (xs ++ ys) o ≡ office_with_all ys
    (office_with_all xs o)
all_with_append [] ys o = refl
all_with_append (x ∷ xs) ys o = all_with_append xs ys (office_with x o)

trace_asked : (asks : List Ask) (o : Office) → AreAskedBy asks (trace asks o)
trace_asked [] o = refl
trace_asked (a ∷ asks) o =
    let v = request_verdict a.now a.caller a.request o in (
      accepted_changes v,
      trace asks (next a o),
      refl,
      one_accepted v,
      verdict_asked a.now o a.caller a.request,
      trace_asked asks (next a o),
    )

after_all : (asks : List Ask) (o : Office) → IsSound o → after asks o ≡ office_with_all (trace asks o) o
after_all [] o s = refl
after_all (a ∷ asks) o s =
    let v = request_verdict a.now a.caller a.request o in
    after_all asks (next a o) (next_sound a o s)
    ∙ ap (office_with_all (trace asks (next a o)))
    (office_is v o (judged_fit a.now a.caller a.request o s.orderly))
    ∙ sym (all_with_append (accepted_changes v) (trace asks (next a o)) o)

pub changes_rows : (asks : List Ask) (o : Office) → IsSound o → ChangesRows asks o (after asks o)
changes_rows asks o s = record {
  changes = trace asks o;
  asked = trace_asked asks o;
  office = after_all asks o s;
  views = λ c t. rebuilt asks o c t s;
}

pub run_rows : (o u : Office) (asks : List Ask) (rs : List Reply) → IsSound o → IsRun o asks rs u →
    ChangesRows (all_served asks rs) o u
run_rows o u asks rs s run =
    subst (λ w. ChangesRows (all_served asks rs) o w) (sym run.office) (changes_rows (all_served asks rs) o s)
