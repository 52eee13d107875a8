-- The words of requests, each with its arguments.
use Rattle.std.specs.Prelude.{ℕ, List, [], ◌∷◌, ◌&&◌, if◌then◌else◌, nat_lt, nat_le, Option, Some, None, bytes_eq}
use Rattle.std.specs.Prelude.{codes}
use Rattle.cpi_codes.specs.Following.{◌>>=◌}
use Rattle.cpi_codes.specs.ItemCode.{item_code_of}
use Rattle.cpi_codes.specs.Key.{key_of}
use Rattle.cpi_codes.specs.Zone.{ZoneRule}
use Rattle.cpi_codes.specs.declared.codes.Code.{Code}
use Rattle.cpi_plan.specs.Calendar.{CalendarPart}
use Rattle.cpi_office.specs.declared.request.NewAssignment.{NewAssignment}
use Rattle.cpi_office.specs.declared.request.Request.{Request}
use Rattle.cpi_office.specs.declared.request.Request.TheVariants as request
use Rattle.cpi_wire.specs.declared.words.Word.{Word}
use Rattle.cpi_wire.specs.declared.words.Word.TheVariants as word
use Rattle.cpi_wire.specs.Arguments.{Text, none, exactly_one, exactly_two, exactly_two_or_three, exactly_four}
use Rattle.cpi_wire.specs.Arguments.{exactly_four_and_confirm, exactly_five, exactly_six}
use Rattle.cpi_wire.specs.PlanBody.{body_of}
use Rattle.cpi_wire.specs.Values.{spelled_time, spelled_year, spelled_month, spelled_collector, spelled_slot}
use Rattle.cpi_wire.specs.Values.{spelled_outlet, spelled_low_tolerance, spelled_high_tolerance, spelled_name}
use Rattle.cpi_wire.specs.Values.{spelled_mark, spelled_form, spelled_edition, spelled_elementary_code}

-- a row of the calendar opens before it closes, and is published no earlier
abbrev pub calendar_row : ℕ → ℕ → ℕ → ℕ → Option CalendarPart
calendar_row m opens closes publishes =
    if nat_lt opens closes && nat_le closes publishes
    then Some (record { month = m; opens = opens; closes = closes; publishes = publishes })
    else None

-- an assignment whose first month isn't after its last
abbrev pub assignment_in_order : NewAssignment → Option NewAssignment
assignment_in_order a = if nat_lt a.last_month a.first_month then None else Some a

abbrev pub spelled_word : Text → Word
spelled_word text =
    if bytes_eq text (codes "quote") then word.Quote
    else if bytes_eq text (codes "quotes") then word.Quotes
    else if bytes_eq text (codes "work") then word.Work
    else if bytes_eq text (codes "items") then word.Items
    else if bytes_eq text (codes "item") then word.Item
    else if bytes_eq text (codes "outlet") then word.Outlet
    else if bytes_eq text (codes "collector") then word.Collector
    else if bytes_eq text (codes "assign") then word.Assign
    else if bytes_eq text (codes "handover") then word.HandOver
    else if bytes_eq text (codes "calendar") then word.Calendar
    else if bytes_eq text (codes "plan") then word.Plan
    else if bytes_eq text (codes "tables") then word.Tables
    else if bytes_eq text (codes "table") then word.Table
    else if bytes_eq text (codes "freeze") then word.Freeze
    else word.Unknown

abbrev pub items_request : List Text → Option Request
items_request arguments = none arguments >>= λ _. Some request.Items

abbrev pub quotes_request : List Text → Option Request
quotes_request arguments = do
  a ← exactly_two arguments
  first ← spelled_month a.0
  last ← spelled_month a.1
  Some (request.Quotes first last)

abbrev pub work_request : List Text → Option Request
work_request arguments = do
  a ← exactly_one arguments
  m ← spelled_month a
  Some (request.Work m)

abbrev pub quote_request : List Text → Option Request
quote_request arguments = do
  a ← exactly_four_and_confirm arguments
  s ← spelled_slot a.0
  m ← spelled_month a.1
  k ← spelled_mark a.2 a.3
  Some (request.Submit (record { slot = s; month = m; mark = k; confirm = a.4 }))

abbrev pub item_request : List Text → Option Request
item_request arguments = do
  a ← exactly_five arguments
  c ← item_code_of a.0
  t ← spelled_name a.1
  u ← spelled_name a.2
  l ← spelled_low_tolerance a.3
  h ← spelled_high_tolerance a.4
  Some (request.PutItem (record { code = c; text = t; unit = u; low = l; high = h }))

abbrev pub outlet_request : List Text → Option Request
outlet_request arguments = do
  a ← exactly_two arguments
  o ← spelled_outlet a.0
  n ← spelled_name a.1
  Some (request.PutOutlet (record { number = o; name = n }))

abbrev pub collector_request : List Text → Option Request
collector_request arguments = do
  a ← exactly_two arguments
  c ← spelled_collector a.0
  k ← key_of a.1
  Some (request.Register (record { number = c; key = k }))

abbrev pub assign_request : List Text → Option Request
assign_request arguments = do
  a ← exactly_six arguments
  c ← spelled_collector a.0
  s ← spelled_slot a.1
  o ← spelled_outlet a.2
  i ← item_code_of a.3
  first ← spelled_month a.4
  last ← spelled_month a.5
  assignment ← assignment_in_order (record { slot = s; outlet = o; item = i; first_month = first; last_month = last })
  Some (request.Assign c assignment)

-- a collector's slot, the slot of the collector who takes its series over, and the month from which on
abbrev pub hand_over_request : List Text → Option Request
hand_over_request arguments = do
  a ← exactly_five arguments
  c ← spelled_collector a.0
  s ← spelled_slot a.1
  d ← spelled_collector a.2
  n ← spelled_slot a.3
  m ← spelled_month a.4
  Some (request.HandOver (record { from = c; slot = s; to = d; new_slot = n; month = m }))

abbrev pub calendar_request : ZoneRule → List Text → Option Request
calendar_request zone arguments = do
  a ← exactly_four arguments
  m ← spelled_month a.0
  opens ← spelled_time zone a.1
  closes ← spelled_time zone a.2
  publishes ← spelled_time zone a.3
  row ← calendar_row m opens closes publishes
  Some (request.PutCalendar row)

abbrev pub plan_request : List Text → Option Request
plan_request arguments = do
  a ← exactly_two arguments
  y ← spelled_year a.0
  b ← body_of a.1
  Some (request.PutPlan y b)

abbrev pub tables_request : List Text → Option Request
tables_request arguments = none arguments >>= λ _. Some request.Tables

-- a month, a form, and a revision if it isn't the latest one
abbrev pub table_request : List Text → Option Request
table_request arguments = do
  a ← exactly_two_or_three arguments
  m ← spelled_month a.0
  f ← spelled_form a.1
  e ← spelled_edition a.2
  Some (request.Table m f e)

-- the elementary aggregates that the fields name, in the same order
abbrev pub elementary_codes : List Text → Option (List Code)
elementary_codes [] = Some []
elementary_codes (text ∷ texts) = do
  code ← spelled_elementary_code text
  more ← elementary_codes texts
  Some (code ∷ more)

-- a month, and then any number of elementary aggregates that may be carried
abbrev pub freeze_request : List Text → Option Request
freeze_request [] = None
freeze_request (first ∷ more) = do
  m ← spelled_month first
  carry ← elementary_codes more
  Some (request.Freeze m carry)

-- the request of a word with its arguments, with civil times by the clock of the zone
abbrev pub spelled_request : ZoneRule → Word → List Text → Option Request
spelled_request zone word.Items arguments = items_request arguments
spelled_request zone word.Quotes arguments = quotes_request arguments
spelled_request zone word.Work arguments = work_request arguments
spelled_request zone word.Quote arguments = quote_request arguments
spelled_request zone word.Item arguments = item_request arguments
spelled_request zone word.Outlet arguments = outlet_request arguments
spelled_request zone word.Collector arguments = collector_request arguments
spelled_request zone word.Assign arguments = assign_request arguments
spelled_request zone word.HandOver arguments = hand_over_request arguments
spelled_request zone word.Calendar arguments = calendar_request zone arguments
spelled_request zone word.Plan arguments = plan_request arguments
spelled_request zone word.Tables arguments = tables_request arguments
spelled_request zone word.Table arguments = table_request arguments
spelled_request zone word.Freeze arguments = freeze_request arguments
spelled_request zone word.Unknown arguments = None
