-- The work list of a collector: the items to price in a month.
use Rattle.std.specs.Prelude.{ℕ, List, filter_map, Option, Some, None, option_map, Result, Ok, Err, if◌then◌else◌}
use Rattle.cpi_plan.specs.declared.items.Item.{Item}
use Rattle.cpi_plan.specs.Calendar.{CalendarPart}
use Rattle.cpi_survey.specs.declared.assignment.Assigned.{Assigned}
use Rattle.cpi_survey.specs.declared.refusal.Refusal.{Refusal}
use Rattle.cpi_survey.specs.declared.refusal.Refusal.TheVariants.{UnknownMonth}
use Rattle.cpi_survey.specs.Assignment.{is_active}
use Rattle.cpi_survey.specs.LastPrice.{last_price}
use Rattle.cpi_survey.specs.Public.{PublicPart, item_of, calendar_of}
use Rattle.cpi_survey.specs.Own.{OwnPart, quote_of}
use Rattle.cpi_survey.specs.WorkPart.{WorkPart}

-- a slot's row: its outlet and item, its last price before the month, and its stored quote of the month
abbrev pub work_row : ℕ → OwnPart → Assigned → Item → WorkPart
work_row month own a item = record {
  slot = a.assignment.slot;
  outlet = a.assignment.outlet;
  outlet_name = a.outlet_name;
  item = a.assignment.item;
  text = item.text;
  unit = item.unit;
  last = last_price a.assignment month own.quotes;
  quote = quote_of a.assignment.slot month own;
}

-- the row of an assignment that is active in the month, if its item is known
abbrev pub row_of_assignment : ℕ → PublicPart → OwnPart → Assigned → Option WorkPart
row_of_assignment month public own a =
    if is_active month a.assignment then option_map (work_row month own a) (item_of a.assignment.item public) else None

-- one row for each assignment that is active in the month, by slot
abbrev pub work_rows : ℕ → PublicPart → OwnPart → List WorkPart
work_rows month public own = filter_map (row_of_assignment month public own) own.assignments

-- a month without a calendar row is unknown
abbrev pub in_calendar : Option CalendarPart → List WorkPart → Result (List WorkPart) Refusal
in_calendar None rows = Err UnknownMonth
in_calendar (Some row) rows = Ok rows

-- the work list of a month
abbrev pub work : ℕ → PublicPart → OwnPart → Result (List WorkPart) Refusal
work month public own = in_calendar (calendar_of month public) (work_rows month public own)
