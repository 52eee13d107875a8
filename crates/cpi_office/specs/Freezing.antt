-- The verdict on a freeze, by the frozen months, the calendar row and the plan of the year, and the release of a month
-- that may be frozen (CPI Manual, chapter 9).
use Rattle.std.specs.Prelude.{◌≡◌, ◌≢◌, ⊤, ℕ, Bool, false, not, is_some, nat_lt, List}
use Rattle.std.specs.Prelude.{Option, Some, None, option_map, Result, Ok, Err}
use Rattle.std.specs.Prelude.{if◌then◌else◌}
use Rattle.std.specs.List.{list_any}
use Rattle.cpi_codes.specs.CodeOrder.{code_cmp}
use Rattle.cpi_codes.specs.declared.codes.Code.{Code}
use Rattle.cpi_rows.specs.Keyed.{row_by_number, row_at}
use Rattle.cpi_plan.specs.Plan.{Plan}
use Rattle.cpi_plan.specs.Calendar.{CalendarPart}
use Rattle.cpi_plan.specs.declared.plan_faults.PlanFault.TheVariants.{UnknownAggregate}
use Rattle.cpi_index.specs.declared.fault.IndexFault.{IndexFault}
use Rattle.cpi_index.specs.declared.fault.IndexFault.TheVariants.{NoMemory}
use Rattle.cpi_release.specs.FrozenMonths.{keeps_frozen, is_next_month, revision_to_give, frozen_months, plan_for}
use Rattle.cpi_release.specs.FrozenMonths.{lacks_plan}
use Rattle.cpi_release.specs.Releasing.{Freeze, release_of_month, fault_of}
use Rattle.cpi_release.specs.declared.freeze_fault.FreezeFault.{FreezeFault}
use Rattle.cpi_release.specs.declared.freeze_fault.FreezeFault.TheVariants as fault
use Rattle.cpi_release.specs.declared.frozen_month.FrozenMonth.{FrozenMonth}
use Rattle.cpi_release.specs.declared.release.Release.{Release}
use Rattle.cpi_store.specs.Office.{Office, Freezes, quotes_of_month}
use Rattle.cpi_office.specs.declared.refusal.Refusal.{Refusal}
use Rattle.cpi_office.specs.declared.refusal.Refusal.TheVariants.{UnknownMonth, PlanFault, FreezeOrder, Unavailable}
use Rattle.cpi_office.specs.declared.refusal.Refusal.TheVariants.{FreezeTooEarly, NoPlan, Index, MonthFrozen}
use Rattle.cpi_office.specs.Verdicts.{Verdict, Refuses, Makes}

-- ---- the refusals, in order
-- the code has weight in the plan
abbrev pub may_be_weighed : Option Plan → Code → Bool
may_be_weighed None code = false
may_be_weighed (Some p) code = is_some (row_at code_cmp (λ w. w.code) code p.weights)

-- a carry code without weight in the plan; without a plan, any code
abbrev pub has_unweighed : Option Plan → List Code → Bool
has_unweighed plan carry = list_any (λ code. not (may_be_weighed plan code)) carry

abbrev pub carry_judged : List Code → Option Plan → CalendarPart → Result CalendarPart Refusal
carry_judged carry plan row = if has_unweighed plan carry then Err (PlanFault UnknownAggregate) else Ok row

abbrev pub plan_judged : List Plan → List FrozenMonth → List Code → CalendarPart → Result CalendarPart Refusal
plan_judged plans frozen carry row =
    if lacks_plan plans frozen row.month then Err NoPlan else carry_judged carry (plan_for plans frozen row.month) row

abbrev pub row_judged : ℕ → List Plan → List FrozenMonth → List Code → Option CalendarPart → Result CalendarPart Refusal
row_judged now plans frozen carry None = Err UnknownMonth
row_judged now plans frozen carry (Some row) =
    if nat_lt now row.closes then Err FreezeTooEarly else plan_judged plans frozen carry row

-- the calendar row of a month that may be frozen, or frozen again
abbrev pub freeze_judged :
    ℕ → ℕ → List Code → List FrozenMonth → Option CalendarPart → List Plan → Result CalendarPart Refusal
freeze_judged now month carry frozen row plans =
    if keeps_frozen month (option_map (λ r. r.publishes) row) frozen then Err MonthFrozen
    else if not (is_next_month month frozen) then Err FreezeOrder
    else row_judged now plans frozen carry row

-- the same in an office
abbrev pub freeze_judged_in : ℕ → ℕ → List Code → Office → Result CalendarPart Refusal
freeze_judged_in now month carry o =
    freeze_judged now month carry (frozen_months o.releases) (row_by_number (λ r. r.month) month o.calendar) o.plans

-- ---- the release that the index gives
abbrev pub unless_fault : Option IndexFault → Release → Result Release IndexFault
unless_fault None r = Ok r
unless_fault (Some fault) r = Err fault

abbrev pub made_release : Option Plan → List Release → Freeze → Result Release IndexFault
made_release plan releases what = unless_fault (fault_of plan releases what) (release_of_month plan releases what)

-- the result is the wanted release or fault, unless memory was lacking or a read failed
abbrev pub IsMade : Result Release IndexFault → Result Release FreezeFault → Type 0
IsMade wanted (Ok release) = wanted ≡ Ok release
IsMade wanted (Err fault.Group) = ⊤
IsMade wanted (Err (fault.Index f)) = f ≢ NoMemory → wanted ≡ Err f

-- the refusal for a month whose release can't be computed
abbrev pub fault_refusal : FreezeFault → Refusal
fault_refusal fault.Group = Unavailable
fault_refusal (fault.Index NoMemory) = Unavailable
fault_refusal (fault.Index f) = Index f

-- the freeze of the row's month, in the revision that follows, with its stored quotes as they are now
abbrev pub frozen_with : ℕ → CalendarPart → List Code → Office → Freeze
frozen_with now row carry o = record {
  month = row.month;
  revision = revision_to_give row.month (frozen_months o.releases);
  frozen_at = now;
  publishes = row.publishes;
  frozen = quotes_of_month row.month o;
  carry = carry;
}

abbrev pub judged_release : ℕ → List Code → Office → CalendarPart → Result Release IndexFault
judged_release now carry o row =
    made_release (plan_for o.plans (frozen_months o.releases) row.month) o.releases (frozen_with now row carry o)

abbrev pub release_verdict : Result Release IndexFault → Verdict
release_verdict (Err fault) = Refuses (Index fault)
release_verdict (Ok r) = Makes (Freezes r)

abbrev pub freeze_verdict : (CalendarPart → Result Release IndexFault) → Result CalendarPart Refusal → Verdict
freeze_verdict made (Err f) = Refuses f
freeze_verdict made (Ok row) = release_verdict (made row)

abbrev pub verdict_of_freeze : ℕ → ℕ → List Code → Office → Verdict
verdict_of_freeze now month carry o = freeze_verdict (judged_release now carry o) (freeze_judged_in now month carry o)
