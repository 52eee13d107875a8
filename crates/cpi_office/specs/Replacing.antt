-- The verdict on a plan or a calendar row: each replaces the one before it, until its year or month is frozen. A row
-- that reopens the last frozen month replaces the one by which it was frozen.
use Rattle.std.specs.Prelude.{ℕ, Bool, List, Option, Some, Result, Ok, Err, if◌then◌else◌}
use Rattle.cpi_rows.specs.Keyed.{row_by_number}
use Rattle.cpi_plan.specs.declared.items.Item.{Item}
use Rattle.cpi_plan.specs.Calendar.{CalendarPart, same_calendar}
use Rattle.cpi_plan.specs.Plan.{Body, Plan}
use Rattle.cpi_plan.specs.Planned.{plan_or_fault}
use Rattle.cpi_plan.specs.SamePlan.{same_plan}
use Rattle.cpi_plan.specs.declared.plan_bodies.PlanBody.{PlanBody}
use Rattle.cpi_plan.specs.declared.plan_faults.PlanFault.{PlanFault as Fault}
use Rattle.cpi_release.specs.FrozenMonths.{frozen_months, keeps_frozen, has_year_frozen}
use Rattle.cpi_release.specs.declared.frozen_month.FrozenMonth.{FrozenMonth}
use Rattle.cpi_store.specs.Office.{Office, Change, PutsPlan, PutsCalendar}
use Rattle.cpi_office.specs.Standing.{standing}
use Rattle.cpi_office.specs.Verdicts.{Verdict, Refuses, Stands, Makes}
use Rattle.cpi_office.specs.declared.refusal.Refusal.{Refusal}
use Rattle.cpi_office.specs.declared.refusal.Refusal.TheVariants.{PlanFrozen, MonthFrozen, PlanFault}
use Rattle.cpi_office.specs.declared.standing.Standing.{Standing}
use Rattle.cpi_office.specs.declared.standing.Standing.TheVariants.{Free, Same, Other}

abbrev pub unless_frozen : Bool → Refusal → Change → Verdict
unless_frozen frozen f c = if frozen then Refuses f else Makes c

-- the same row changes nothing; any other is put, unless its month or year stays frozen
abbrev pub replacement_verdict : Bool → Refusal → Change → Standing → Verdict
replacement_verdict frozen f c Free = unless_frozen frozen f c
replacement_verdict frozen f c Same = Stands c
replacement_verdict frozen f c Other = unless_frozen frozen f c

abbrev pub calendar_put : List FrozenMonth → CalendarPart → Option CalendarPart → Verdict
calendar_put frozen row old =
    replacement_verdict (keeps_frozen row.month (Some row.publishes) frozen) MonthFrozen (PutsCalendar row)
    (standing same_calendar row old)

-- the plan that is sent for a year, with the known items
abbrev pub sent_body : List Item → PlanBody → Body
sent_body known body = record {
  known = known;
  titles = body.titles;
  weights = body.weights;
  places = body.places;
  references = body.references;
}

-- a plan against the year's plan, or the fault of the plan that was sent
abbrev pub plan_standing : List Plan → Result Plan Fault → Result (Plan × Standing) Fault
plan_standing plans (Err fault) = Err fault
plan_standing plans (Ok plan) = Ok (plan, standing same_plan plan (row_by_number (λ y. y.year) plan.year plans))

abbrev pub plan_put : List FrozenMonth → Result (Plan × Standing) Fault → Verdict
plan_put frozen (Err fault) = Refuses (PlanFault fault)
plan_put frozen (Ok judged) =
    replacement_verdict (has_year_frozen judged.0.year frozen) PlanFrozen (PutsPlan judged.0) judged.1

-- ---- in an office
abbrev pub body_judged : ℕ → PlanBody → Office → Result (Plan × Standing) Fault
body_judged year body o = plan_standing o.plans (plan_or_fault year (sent_body o.items body))

abbrev pub planned_in : ℕ → PlanBody → Office → Verdict
planned_in year body o = plan_put (frozen_months o.releases) (body_judged year body o)

abbrev pub scheduled_in : CalendarPart → Office → Verdict
scheduled_in row o = calendar_put (frozen_months o.releases) row (row_by_number (λ r. r.month) row.month o.calendar)
