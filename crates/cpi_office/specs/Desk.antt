-- The verdict on each command of the desk: it is refused, it changes nothing, or it puts a row.
use Rattle.std.specs.Prelude.{ℕ, Option, Some, None, if◌then◌else◌}
use Rattle.cpi_rows.specs.Keyed.{row_by_number}
use Rattle.cpi_plan.specs.declared.items.Item.{Item}
use Rattle.cpi_plan.specs.Items.{same_item}
use Rattle.cpi_store.specs.declared.registration.Registration.{Registration}
use Rattle.cpi_store.specs.declared.outlet.Outlet.{Outlet}
use Rattle.cpi_store.specs.Registration.{registration_of, same_registration}
use Rattle.cpi_store.specs.Outlet.{same_outlet}
use Rattle.cpi_store.specs.Office.{Office, PutsItem, Registers, PutsOutlet}
use Rattle.cpi_office.specs.Standing.{standing, put_once}
use Rattle.cpi_office.specs.Assigning.{assigned_in}
use Rattle.cpi_office.specs.HandingOver.{handed_over}
use Rattle.cpi_office.specs.Replacing.{planned_in, scheduled_in}
use Rattle.cpi_office.specs.Freezing.{verdict_of_freeze}
use Rattle.cpi_office.specs.Verdicts.{Verdict, Refuses, Stands, Makes}
use Rattle.cpi_office.specs.declared.request.Request.{Request}
use Rattle.cpi_office.specs.declared.request.Request.TheVariants as request
use Rattle.cpi_office.specs.declared.refusal.Refusal.TheVariants.{Taken}

abbrev pub item_put : Item → Option Item → Verdict
item_put i old = put_once (PutsItem i) (standing same_item i old)

abbrev pub outlet_put : Outlet → Option Outlet → Verdict
outlet_put u old = put_once (PutsOutlet u) (standing same_outlet u old)

-- judged by the registration with the number, and by the one with the key
abbrev pub registration_verdict : Registration → Option Registration → Option Registration → Verdict
registration_verdict b None None = Makes (Registers b)
registration_verdict b None (Some other) = Refuses Taken
registration_verdict b (Some old) registration = if same_registration old b then Stands (Registers b) else Refuses Taken

-- The verdict on a command of the desk; None for any other request.
abbrev pub command_verdict : ℕ → Request → Office → Option Verdict
command_verdict now (request.PutItem i) o = Some (item_put i (row_by_number (λ i. i.code) i.code o.items))
command_verdict now (request.PutPlan year body) o = Some (planned_in year body o)
command_verdict now (request.PutCalendar row) o = Some (scheduled_in row o)
command_verdict now (request.Register b) o =
    Some (registration_verdict b (row_by_number (λ b. b.number) b.number o.collectors)
    (registration_of b.key o.collectors))
command_verdict now (request.PutOutlet u) o = Some (outlet_put u (row_by_number (λ u. u.number) u.number o.outlets))
command_verdict now (request.Assign collector sent) o = Some (assigned_in collector sent o)
command_verdict now (request.HandOver h) o = Some (handed_over h o)
command_verdict now (request.Freeze month carry) o = Some (verdict_of_freeze now month carry o)
command_verdict now _ o = None
