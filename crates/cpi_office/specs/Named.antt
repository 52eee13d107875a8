-- Assignments with their outlets' names.
use Rattle.std.specs.Prelude.{◌≡◌, ℕ, Bool, false, List, Option, Some, None, option_map, if◌then◌else◌}
use Rattle.cpi_rows.specs.Keyed.{row_by_number}
use Rattle.cpi_survey.specs.Assignment.{same_assignment}
use Rattle.cpi_survey.specs.declared.assignment.Assignment.{Assignment}
use Rattle.cpi_survey.specs.declared.assignment.Assigned.{Assigned}
use Rattle.cpi_store.specs.Office.{Office, own_part}
use Rattle.cpi_store.specs.declared.registration.Registration.{Registration}
use Rattle.cpi_store.specs.declared.outlet.Outlet.{Outlet}
use Rattle.cpi_store.specs.declared.given.Given.{Given}
use Rattle.cpi_store.specs.Series.{own_series, same_series}
use Rattle.cpi_office.specs.Standing.{standing}
use Rattle.cpi_office.specs.declared.refusal.Refusal.TheVariants.{Taken}
use Rattle.cpi_office.specs.declared.reply.Reply.{Reply}
use Rattle.cpi_office.specs.declared.reply.Reply.TheVariants as reply
use Rattle.cpi_office.specs.declared.standing.Standing.{Standing}

abbrev pub same_assigned : Assigned → Assignment → Bool
same_assigned old a = same_assignment old.assignment a

-- an assignment against the one in the collector's slot, whatever its series
abbrev pub slot_standing : ℕ → Assignment → Office → Standing
slot_standing collector a o =
    standing same_assigned a (row_by_number (λ old. old.assignment.slot) a.slot (own_part collector o).assignments)

-- the slot began its series, so that the series has its name
abbrev pub is_first_series : ℕ → ℕ → Option Given → Bool
is_first_series collector slot None = false
is_first_series collector slot (Some g) = same_series g.series (own_series collector slot)

-- the assignment with the name of its outlet, if the outlet is known
abbrev pub IsNamed : List Outlet → Assignment → Option Assigned → Type 0
IsNamed outlets a named =
    named ≡ option_map (λ u. record { assignment = a; outlet_name = u.name })
    (row_by_number (λ u. u.number) a.outlet outlets)

-- the reply if the slot has the assignment already: done, if the slot began its series and the collector is known
abbrev pub again_reply : Bool → Option Registration → Reply
again_reply first None = reply.Refused Taken
again_reply first (Some b) = if first then reply.Done else reply.Refused Taken
