-- No reply that the definitions give says that the office is unavailable, and no verdict turns a caller away.
use Rattle.std.proofs.Common.{◌≡◌, ℕ, Bool, true, false, List, Some, None, Option, Result, Ok, Err, refl}
use Rattle.std.specs.Prelude.{option_map, if◌then◌else◌, is_none, nat_lt, not}
use Rattle.cpi_rows.specs.Keyed.{row_by_number}
use Rattle.cpi_rows.specs.Held.{held_by}
use Rattle.cpi_codes.specs.declared.codes.Code.{Code}
use Rattle.cpi_index.specs.declared.fault.IndexFault.{IndexFault}
use Rattle.cpi_release.specs.FrozenMonths.{frozen_months, last_frozen, keeps_frozen, is_next_month, plan_for}
use Rattle.cpi_release.specs.FrozenMonths.{lacks_plan}
use Rattle.cpi_release.specs.PublishedTables.{PublishedTable}
use Rattle.cpi_release.specs.declared.frozen_month.FrozenMonth.{FrozenMonth}
use Rattle.cpi_release.specs.declared.form.Form.{Form}
use Rattle.cpi_release.specs.declared.release.Release.{Release}
use Rattle.cpi_office.specs.Freezing.{has_unweighed, row_judged, judged_release, release_verdict, freeze_verdict}
use Rattle.cpi_office.specs.Freezing.{verdict_of_freeze}
use Rattle.cpi_office.specs.HandingOver.{handed_over, is_takeable, over_collectors, over_slots, over_free, over_judged}
use Rattle.cpi_office.specs.HandingOver.{stands_over, is_handed_within, is_not_after}
use Rattle.cpi_office.specs.declared.request.HandOver.{HandOver}
use Rattle.cpi_office.specs.declared.request.NewAssignment.{NewAssignment}
use Rattle.cpi_office.specs.declared.refusal.Refusal.{Refusal}
use Rattle.cpi_office.specs.declared.refusal.Refusal.TheVariants.{PlanFrozen, MonthFrozen}
use Rattle.cpi_survey.specs.Decision.{entry_decision}
use Rattle.cpi_survey.specs.Within.{has_quotes_since}
use Rattle.cpi_survey.specs.declared.assignment.Assignment.{Assignment}
use Rattle.cpi_store.specs.declared.given.Given.{Given}
use Rattle.cpi_plan.specs.Plan.{Plan}
use Rattle.cpi_plan.specs.Calendar.{CalendarPart}
use Rattle.cpi_plan.specs.declared.plan_faults.PlanFault.{PlanFault}
use Rattle.cpi_survey.specs.Public.{PublicPart, calendar_of}
use Rattle.cpi_survey.specs.Own.{OwnPart}
use Rattle.cpi_survey.specs.Work.{work, work_rows, in_calendar}
use Rattle.cpi_store.specs.Registration.{same_registration}
use Rattle.cpi_plan.specs.declared.items.Item.{Item}
use Rattle.cpi_store.specs.declared.outlet.Outlet.{Outlet}
use Rattle.cpi_survey.specs.declared.assignment.Assigned.{Assigned}
use Rattle.cpi_store.specs.declared.registration.Registration.{Registration}
use Rattle.cpi_survey.specs.declared.decision.Decision.{Decision}
use Rattle.cpi_survey.specs.declared.refusal.Refusal.{Refusal as EntryRefusal}
use Rattle.cpi_survey.specs.declared.refusal.Refusal.TheVariants as entry
use Rattle.cpi_survey.specs.declared.decision.Decision.TheVariants.{Again, Put}
use Rattle.cpi_store.specs.Office.{Office, Change}
use Rattle.cpi_office.specs.Projections.{View, OwnView}
use Rattle.cpi_office.specs.Verdicts.{Verdict, Refuses, verdict_reply}
use Rattle.cpi_office.specs.Standing.{put_once}
use Rattle.cpi_office.specs.Assigning.{to_collector, assignment_verdict, if_assignable, may_be_assigned}
use Rattle.cpi_office.specs.Replacing.{unless_frozen, replacement_verdict, plan_put, plan_standing, sent_body}
use Rattle.cpi_office.specs.Desk.{registration_verdict}
use Rattle.cpi_plan.specs.Planned.{plan_or_fault}
use Rattle.cpi_office.specs.Answers.{decision_reply, known_answer, work_reply, reply_with_table}
use Rattle.cpi_office.specs.Runs.{reply_to}
use Rattle.cpi_office.specs.Calls.{is_failure_of}
use Rattle.cpi_office.specs.Authorization.{is_turned_away}
use Rattle.cpi_office.specs.declared.reply.Reply.{Reply}
use Rattle.cpi_office.specs.declared.standing.Standing.{Standing}
use Rattle.cpi_office.specs.declared.standing.Standing.TheVariants.{Free, Same, Other}
use Rattle.cpi_office.specs.declared.caller.Caller.{Caller}
use Rattle.cpi_office.specs.declared.caller.Caller.TheVariants as caller
use Rattle.cpi_office.specs.declared.request.Request.{Request}
use Rattle.cpi_office.specs.declared.request.Request.TheVariants as request

-- what holds of both branches, each where its test says so
pub if_holds : {A : Type 0} (P : A → Type 0) (c : Bool) (x y : A) → (c ≡ true → P x) → (c ≡ false → P y) →
    P (if c then x else y)
if_holds P true x y f g = f refl
if_holds P false x y f g = g refl

-- neither unavailable nor turned away
abbrev IsOwn : Reply → Type 0
IsOwn r = (is_failure_of r ≡ false) × (is_turned_away r ≡ false)

abbrev Judges : Verdict → Type 0
Judges v = IsOwn (verdict_reply v)

pub decision_own : (d : Result Decision EntryRefusal) → IsOwn (decision_reply d)
decision_own (Err entry.UnknownSlot) = (refl, refl)
decision_own (Err entry.UnknownMonth) = (refl, refl)
decision_own (Err entry.NotActive) = (refl, refl)
decision_own (Err entry.NotOpen) = (refl, refl)
decision_own (Err entry.Closed) = (refl, refl)
decision_own (Err entry.NoLastPrice) = (refl, refl)
decision_own (Err (entry.OutOfTolerance last low high)) = (refl, refl)
decision_own (Err entry.ReceiptsUsedUp) = (refl, refl)
decision_own (Ok (Again receipt)) = (refl, refl)
decision_own (Ok (Put quote)) = (refl, refl)

pub work_own : (month : ℕ) (p : PublicPart) (own : OwnPart) → IsOwn (work_reply (work month p own))
work_own month p own = cases (calendar_of month p)
  where
    cases : (row : Option CalendarPart) → IsOwn (work_reply (in_calendar row (work_rows month p own)))
    cases None = (refl, refl)
    cases (Some row) = (refl, refl)

pub once_judges : (c : Change) (s : Standing) → Judges (put_once c s)
once_judges c Free = (refl, refl)
once_judges c Same = (refl, refl)
once_judges c Other = (refl, refl)

pub unless_judges : (frozen : Bool) (f : Refusal) (c : Change) → Judges (Refuses f) → Judges (unless_frozen frozen f c)
unless_judges true f c own = own
unless_judges false f c own = (refl, refl)

pub replaced_judges : (frozen : Bool) (f : Refusal) (c : Change) (s : Standing) → Judges (Refuses f) →
    Judges (replacement_verdict frozen f c s)
replaced_judges frozen f c Free own = unless_judges frozen f c own
replaced_judges frozen f c Same own = (refl, refl)
replaced_judges frozen f c Other own = unless_judges frozen f c own

pub plan_judges : (months : List FrozenMonth) (r : Result (Plan × Standing) PlanFault) → Judges (plan_put months r)
plan_judges months (Err fault) = (refl, refl)
plan_judges months (Ok judged) = replaced_judges _ PlanFrozen _ judged.1 (refl, refl)

-- a freeze
pub release_judges : (r : Result Release IndexFault) → Judges (release_verdict r)
release_judges (Err fault) = (refl, refl)
release_judges (Ok r) = (refl, refl)

module _ (now month : ℕ) (carry : List Code) (o : Office) where
  abbrev already : List FrozenMonth
  already = frozen_months o.releases

  abbrev Fine : Result CalendarPart Refusal → Type 0
  Fine judged = Judges (freeze_verdict (judged_release now carry o) judged)

  row_judges : (w : Option CalendarPart) → Fine (row_judged now o.plans already carry w)
  row_judges None = (refl, refl)
  row_judges (Some row) =
      if_holds Fine (nat_lt now row.closes) _ _ (λ e. (refl, refl)) (λ e.
      if_holds Fine (lacks_plan o.plans already row.month) _ _ (λ e. (refl, refl)) (λ e.
      if_holds Fine (has_unweighed (plan_for o.plans already row.month) carry) _ _ (λ e. (refl, refl))
      (λ e. release_judges (judged_release now carry o row))))

  pub frozen_judges : Judges (verdict_of_freeze now month carry o)
  frozen_judges =
      if_holds Fine (keeps_frozen month (option_map (λ r. r.publishes)
      (row_by_number (λ r. r.month) month o.calendar)) already)
      _ _ (λ e. (refl, refl)) (λ e.
      if_holds Fine (not (is_next_month month already)) _ _ (λ e. (refl, refl))
      (λ e. row_judges (row_by_number (λ r. r.month) month o.calendar)))

pub registered_judges : (b : Registration) (w v : Option Registration) → Judges (registration_verdict b w v)
registered_judges b None None = (refl, refl)
registered_judges b None (Some other) = (refl, refl)
registered_judges b (Some old) v = if_holds Judges (same_registration old b) _ _ (λ e. (refl, refl)) (λ e. (refl, refl))

pub assigned_judges : (a : Assigned) (i : Option Item) (u : Option Outlet) (b : Option Registration) (s : Standing) →
    Judges (assignment_verdict a i u b s)
assigned_judges a i u None Same = (refl, refl)
assigned_judges a i u (Some b) Same = (refl, refl)
assigned_judges a i u b Other = (refl, refl)
assigned_judges a i u b Free =
    if_holds Judges (is_none i) _ _ (λ e. (refl, refl)) (λ e.
    if_holds Judges (is_none u) _ _ (λ e. (refl, refl)) (λ e. cases b))
  where
    cases : (b : Option Registration) → Judges (to_collector a b)
    cases None = (refl, refl)
    cases (Some b) = (refl, refl)

pub placed_judges : (n : ℕ) (p : NewAssignment) (v : Verdict) → Judges v → Judges (if_assignable n p v)
placed_judges n p v own = if_holds Judges (may_be_assigned n p) _ _ (λ e. own) (λ e. (refl, refl))

-- a hand-over
module _ (h : HandOver) (o : Office) where
  judged_judges : (b c : Registration) (former : Given) → Judges (over_free h o b c former)
  judged_judges b c former =
      if_holds Fits (not (is_handed_within h former.assignment)) _ _ (λ e. (refl, refl)) (λ e.
      if_holds Fits (is_not_after h.month (last_frozen (frozen_months o.releases))) _ _ (λ e. (refl, refl)) (λ e.
      if_holds Fits (has_quotes_since h.slot h.month (held_by b.number o.quotes)) _ _ (λ e. (refl, refl))
      (λ e. (refl, refl))))
    where
      Fits : Result Assignment Refusal → Type 0
      Fits judged = Judges (over_judged h o b c former judged)

  slots_judge : (b c : Registration) (former new : Option Given) → Judges (over_slots h o b c former new)
  slots_judge b c None new = (refl, refl)
  slots_judge b c (Some former) None = judged_judges b c former
  slots_judge b c (Some former) (Some new) = if_holds Judges (stands_over h former new) _ _ (λ e. (refl, refl))
      (λ e. (refl, refl))

  collectors_judge : (b c : Option Registration) → Judges (over_collectors h o b c)
  collectors_judge None c = (refl, refl)
  collectors_judge (Some b) None = (refl, refl)
  collectors_judge (Some b) (Some c) =
      slots_judge b c (row_by_number (λ g. g.assignment.slot) h.slot (held_by b.number o.assignments))
      (row_by_number (λ g. g.assignment.slot) h.new_slot (held_by c.number o.assignments))

  pub handed_judges : Judges (handed_over h o)
  handed_judges =
      if_holds Judges (is_takeable h) _ _ (λ e. collectors_judge (row_by_number (λ b. b.number) h.from o.collectors)
      (row_by_number (λ b. b.number) h.to o.collectors)) (λ e. (refl, refl))

pub table_own : (form : Form) (month : ℕ) (i : Option PublishedTable) → IsOwn (reply_with_table form month i)
table_own form month None = (refl, refl)
table_own form month (Some i) = (refl, refl)

known_told : (now : ℕ) (r : Request) (v : View) (own : Option OwnView) → is_failure_of
    (known_answer now r v own) ≡ false
known_told now r v None = refl
known_told now request.Items v (Some own) = refl
known_told now request.Tables v (Some own) = refl
known_told now (request.Table month form edition) v (Some own) = (table_own form month _).0
known_told now (request.Freeze month carry) v (Some own) = refl
known_told now (request.Work month) v (Some own) = (work_own month v.public own.part).0
known_told now (request.Quotes first last) v (Some own) = refl
known_told now (request.Submit entry) v (Some own) = (decision_own (entry_decision now entry v.public own.part)).0
known_told now (request.PutItem i) v (Some own) = refl
known_told now (request.Register b) v (Some own) = refl
known_told now (request.PutOutlet u) v (Some own) = refl
known_told now (request.Assign n a) v (Some own) = refl
known_told now (request.HandOver h) v (Some own) = refl
known_told now (request.PutPlan year body) v (Some own) = refl
known_told now (request.PutCalendar row) v (Some own) = refl

desk_told : (now : ℕ) (r : Request) (o : Office) → is_failure_of (reply_to now caller.Desk r o) ≡ false
desk_told now request.Items o = refl
desk_told now request.Tables o = refl
desk_told now (request.Table month form edition) o = (table_own form month _).0
desk_told now (request.Freeze month carry) o = (frozen_judges now month carry o).0
desk_told now (request.Work month) o = refl
desk_told now (request.Quotes first last) o = refl
desk_told now (request.Submit entry) o = refl
desk_told now (request.PutItem i) o = (once_judges _ _).0
desk_told now (request.Register b) o = (registered_judges b _ _).0
desk_told now (request.PutOutlet u) o = (once_judges _ _).0
desk_told now (request.Assign n a) o = (placed_judges n a _ (assigned_judges _ _ _ _ _)).0
desk_told now (request.HandOver h) o = (handed_judges h o).0
desk_told now (request.PutPlan year body) o =
    (plan_judges (frozen_months o.releases) (plan_standing o.plans (plan_or_fault year (sent_body o.items body)))).0
desk_told now (request.PutCalendar row) o = (replaced_judges _ MonthFrozen _ _ (refl, refl)).0

public_told : (now : ℕ) (r : Request) (o : Office) → is_failure_of (reply_to now caller.Public r o) ≡ false
public_told now request.Items o = refl
public_told now request.Tables o = refl
public_told now (request.Table month form edition) o = (table_own form month _).0
public_told now (request.Freeze month carry) o = refl
public_told now (request.Work month) o = refl
public_told now (request.Quotes first last) o = refl
public_told now (request.Submit entry) o = refl
public_told now (request.PutItem i) o = refl
public_told now (request.Register b) o = refl
public_told now (request.PutOutlet u) o = refl
public_told now (request.Assign n a) o = refl
public_told now (request.HandOver h) o = refl
public_told now (request.PutPlan year body) o = refl
public_told now (request.PutCalendar row) o = refl

pub never_failure : (now : ℕ) (k : Caller) (r : Request) (o : Office) → is_failure_of (reply_to now k r o) ≡ false
never_failure now caller.Public r o = public_told now r o
never_failure now (caller.Collector key) r o = known_told now r _ _
never_failure now caller.Desk r o = desk_told now r o
