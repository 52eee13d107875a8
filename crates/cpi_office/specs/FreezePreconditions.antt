-- The preconditions of a freeze: a freeze that isn't refused meets all that the computation of its release requires.
use Rattle.std.specs.Prelude.{◌≡◌, ℕ, ◌+◌, ◌≤◌, List, Option, Some, Ok, IsSome}
use Rattle.cpi_codes.specs.declared.codes.Code.{Code}
use Rattle.cpi_plan.specs.Plan.{Plan}
use Rattle.cpi_plan.specs.Calendar.{CalendarPart}
use Rattle.cpi_release.specs.FrozenMonths.{frozen_months, plan_for}
use Rattle.cpi_release.specs.Releases.{latest_release}
use Rattle.cpi_release.specs.Releasing.{plan_in}
use Rattle.cpi_release.specs.declared.release.Release.{Release}
use Rattle.cpi_store.specs.Office.{Office}
use Rattle.cpi_store.specs.Sound.{IsSound}
use Rattle.cpi_office.specs.Freezing.{freeze_judged_in}

-- the month before was frozen
abbrev pub FollowsRelease : List Release → ℕ → Type 0
FollowsRelease releases month =
    (before : ℕ) × (before + 1 ≡ month) × (r : Release) × (latest_release releases before ≡ Some r)

-- the plan is that of the month's year, and only the first release has none; with a plan, the month before was frozen
pub record MeetsPreconditions (plans : List Plan) (releases : List Release) (plan : Option Plan)
    (month : ℕ) : Type 0 where
  pub plan_is : plan ≡ plan_in plans releases month
  pub after : IsSome plan → FollowsRelease releases month × (12 ≤ month)

-- a freeze that isn't refused meets the preconditions of its release
abbrev pub JudgedMeetsPreconditions : Type 0
JudgedMeetsPreconditions =
    (o : Office) (now month : ℕ) (carry : List Code) (row : CalendarPart) → IsSound o →
    freeze_judged_in now month carry o ≡ Ok row →
    MeetsPreconditions o.plans o.releases (plan_for o.plans (frozen_months o.releases) row.month) row.month
