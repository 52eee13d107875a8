-- The public part of the survey.
use Rattle.std.specs.Prelude.{ℕ, List, Option}
use Rattle.cpi_rows.specs.Keyed.{row_by_number}
use Rattle.cpi_plan.specs.declared.items.Item.{Item}
use Rattle.cpi_plan.specs.Plan.{Plan}
use Rattle.cpi_plan.specs.Calendar.{CalendarPart}

-- the public part: items by code, plans by year, calendar rows by month
pub record PublicPart : Type 0 where
  pub items : List Item
  pub plans : List Plan
  pub calendar : List CalendarPart

-- the item with a code
abbrev pub item_of : ℕ → PublicPart → Option Item
item_of code public = row_by_number (λ i. i.code) code public.items

-- the plan of a year
abbrev pub plan_of_year : ℕ → PublicPart → Option Plan
plan_of_year year public = row_by_number (λ y. y.year) year public.plans

-- the calendar row of a month
abbrev pub calendar_of : ℕ → PublicPart → Option CalendarPart
calendar_of month public = row_by_number (λ r. r.month) month public.calendar
