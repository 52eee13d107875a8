-- The verdict on an assignment that the desk sends.
use Rattle.std.specs.Prelude.{ℕ, nat_le, ◌&&◌, Bool, Option, Some, None, if◌then◌else◌, is_none}
use Rattle.cpi_rows.specs.Keyed.{row_by_number}
use Rattle.cpi_rows.specs.Held.{held_by}
use Rattle.cpi_codes.specs.declared.limits.TheConstants.{GREATEST_SLOT}
use Rattle.cpi_plan.specs.declared.items.Item.{Item}
use Rattle.cpi_survey.specs.Assignment.{same_assignment}
use Rattle.cpi_survey.specs.declared.assignment.Assignment.{Assignment}
use Rattle.cpi_survey.specs.declared.assignment.Assigned.{Assigned}
use Rattle.cpi_store.specs.Office.{Office, Assigns}
use Rattle.cpi_store.specs.Outlet.{with_name}
use Rattle.cpi_store.specs.Series.{first_of_series, same_series}
use Rattle.cpi_store.specs.declared.given.Given.{Given}
use Rattle.cpi_store.specs.declared.registration.Registration.{Registration}
use Rattle.cpi_store.specs.declared.outlet.Outlet.{Outlet}
use Rattle.cpi_office.specs.Standing.{standing}
use Rattle.cpi_office.specs.Verdicts.{Verdict, Refuses, Stands, Makes}
use Rattle.cpi_office.specs.declared.refusal.Refusal.TheVariants.{BadRequest, Taken}
use Rattle.cpi_office.specs.declared.refusal.Refusal.TheVariants.{UnknownItem, UnknownOutlet, UnknownCollector}
use Rattle.cpi_office.specs.declared.request.NewAssignment.{NewAssignment}
use Rattle.cpi_office.specs.declared.standing.Standing.{Standing}
use Rattle.cpi_office.specs.declared.standing.Standing.TheVariants.{Free, Same, Other}

-- the assignment of a request: no price is copied, since the series is new
abbrev pub assignment_sent : NewAssignment → Assignment
assignment_sent sent = record {
  slot = sent.slot;
  outlet = sent.outlet;
  item = sent.item;
  first_month = sent.first_month;
  last_month = sent.last_month;
  copied = None;
}

-- the same content, and one series
abbrev pub same_given : Given → Given → Bool
same_given old g = same_assignment old.assignment g.assignment && same_series old.series g.series

-- the first month isn't after the last, and number and slot are within their limits, which their types keep
abbrev pub may_be_assigned : ℕ → NewAssignment → Bool
may_be_assigned collector sent =
    nat_le sent.first_month sent.last_month && nat_le 1 collector && nat_le 1 sent.slot && nat_le sent.slot GREATEST_SLOT

-- the next verdict, if the assignment is within the limits; else refusal 10
abbrev pub if_assignable : ℕ → NewAssignment → Verdict → Verdict
if_assignable collector sent next = if may_be_assigned collector sent then next else Refuses BadRequest

-- ---- a slot that is free: item, outlet, collector, in this order
abbrev pub to_collector : Assigned → Option Registration → Verdict
to_collector a None = Refuses UnknownCollector
to_collector a (Some b) = Makes (Assigns b a)

abbrev pub outlet_judged : Assigned → Option Outlet → Option Registration → Verdict
outlet_judged a outlet registration = if is_none outlet then Refuses UnknownOutlet else to_collector a registration

abbrev pub item_judged : Assigned → Option Item → Option Outlet → Option Registration → Verdict
item_judged a item outlet registration =
    if is_none item then Refuses UnknownItem else outlet_judged a outlet registration

-- ---- a slot that isn't
abbrev pub standing_for : Assigned → Option Registration → Verdict
standing_for a None = Refuses Taken
standing_for a (Some b) = Stands (Assigns b a)

-- the verdict by the item, the outlet and the collector that were found, and by the slot: free, the same or another
abbrev pub assignment_verdict : Assigned → Option Item → Option Outlet → Option Registration → Standing → Verdict
assignment_verdict a item outlet registration Free = item_judged a item outlet registration
assignment_verdict a item outlet registration Same = standing_for a registration
assignment_verdict a item outlet registration Other = Refuses Taken

-- the same in an office, for this state of the slot
abbrev pub assigned_over : Standing → ℕ → Assignment → Office → Verdict
assigned_over stands collector a o =
    assignment_verdict (with_name o.outlets a) (row_by_number (λ i. i.code) a.item o.items)
    (row_by_number (λ u. u.number) a.outlet o.outlets)
    (row_by_number (λ b. b.number) collector o.collectors) stands

-- the slot is given to the collector, with its outlet and item, as a series of its own
abbrev pub slot_given : ℕ → Assignment → Office → Verdict
slot_given collector a o =
    assigned_over
    (standing same_given (first_of_series collector a)
    (row_by_number (λ g. g.assignment.slot) a.slot (held_by collector o.assignments))) collector a o

-- the verdict on an assignment that is sent
abbrev pub assigned_in : ℕ → NewAssignment → Office → Verdict
assigned_in collector sent o = if_assignable collector sent (slot_given collector (assignment_sent sent) o)
