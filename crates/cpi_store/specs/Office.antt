-- The office as lists, each in the order of what it is listed by, and what an accepted request puts into them.
use Rattle.std.specs.Prelude.{ℕ, ◌==◌, ◌&&◌, List, [], map, Option, option_map, if◌then◌else◌}
use Rattle.std.specs.List.{filter_map}
use Rattle.std.specs.Ordering.{nat_cmp}
use Rattle.cpi_rows.specs.Keyed.{with_row, put_by, row_at}
use Rattle.cpi_rows.specs.Held.{held_by, held_cmp, held_key}
use Rattle.cpi_plan.specs.declared.items.Item.{Item}
use Rattle.cpi_store.specs.declared.outlet.Outlet.{Outlet}
use Rattle.cpi_plan.specs.Plan.{Plan}
use Rattle.cpi_plan.specs.Calendar.{CalendarPart}
use Rattle.cpi_survey.specs.declared.assignment.Assignment.{Assignment}
use Rattle.cpi_survey.specs.declared.assignment.Assigned.{Assigned}
use Rattle.cpi_survey.specs.Assignment.{until}
use Rattle.cpi_store.specs.declared.registration.Registration.{Registration}
use Rattle.cpi_store.specs.declared.given.Given.{Given}
use Rattle.cpi_store.specs.declared.series_move.SeriesMove.{SeriesMove}
use Rattle.cpi_store.specs.Series.{by_series, first_of_series, last_of_series}
use Rattle.cpi_survey.specs.Quote.{QuoteRow, quote_cmp, quote_key}
use Rattle.cpi_survey.specs.Public.{PublicPart}
use Rattle.cpi_survey.specs.Own.{OwnPart}
use Rattle.cpi_store.specs.Outlet.{with_name}
use Rattle.cpi_index.specs.Frozen.{Frozen}
use Rattle.cpi_release.specs.FrozenMonths.{release_cmp, release_key}
use Rattle.cpi_release.specs.declared.release.Release.{Release}

-- an assignment and a quote are listed with their collector's number
pub record Office : Type 0 where
  pub items : List Item  -- by code
  pub plans : List Plan  -- by year
  pub calendar : List CalendarPart  -- by month
  pub collectors : List Registration  -- by number
  pub outlets : List Outlet  -- by number
  pub assignments : List (ℕ × Given)  -- by collector and slot
  pub quotes : List (ℕ × QuoteRow)  -- by collector, slot and month
  pub releases : List Release  -- by month and revision

abbrev pub empty_office : Office
empty_office = record {
  items = [];
  plans = [];
  calendar = [];
  collectors = [];
  outlets = [];
  assignments = [];
  quotes = [];
  releases = [];
}

-- the office with these releases in the place of its own
abbrev pub with_releases : List Release → Office → Office
with_releases releases o = record o { releases = releases }

-- what everybody may see
abbrev pub public_part : Office → PublicPart
public_part o = record { items = o.items; plans = o.plans; calendar = o.calendar }

-- what a collector has: of a series that was handed over, nobody else's number
abbrev pub assignments_by : ℕ → Office → List Assignment
assignments_by c o = map (λ g. g.assignment) (held_by c o.assignments)

abbrev pub own_part : ℕ → Office → OwnPart
own_part c o = record { assignments = map (with_name o.outlets) (assignments_by c o); quotes = held_by c o.quotes }

-- the assignments and quotes of all collectors, each with its collector's number
abbrev pub put_given : ℕ → Given → List (ℕ × Given) → List (ℕ × Given)
put_given number g rows = with_row (held_cmp nat_cmp) (held_key (λ g. g.assignment.slot)) (number, g) rows

abbrev pub put_quote : ℕ → QuoteRow → List (ℕ × QuoteRow) → List (ℕ × QuoteRow)
put_quote number q rows = with_row (held_cmp quote_cmp) (held_key quote_key) (number, q) rows

abbrev pub put_release : Release → List Release → List Release
put_release r releases = with_row release_cmp release_key r releases

-- ---- a series that is handed over

-- what a slot was given, with this last month
abbrev pub given_until : ℕ → Given → Given
given_until last_month g = record g { assignment = until last_month g.assignment }

abbrev pub row_until : ℕ → ℕ → ℕ → ℕ × Given → ℕ × Given
row_until number slot last_month row =
    if row.0 == number && row.1.assignment.slot == slot then (row.0, given_until last_month row.1) else row

-- the assignments, of which that of a collector's slot has this last month
abbrev pub end_given : ℕ → ℕ → ℕ → List (ℕ × Given) → List (ℕ × Given)
end_given number slot last_month rows = map (row_until number slot last_month) rows

-- what the new slot is given: the same series
abbrev pub given_over : SeriesMove → Given
given_over h = record { assignment = h.assigned.assignment; series = h.ended.series }

-- the former assignment ends, and the new one is put
abbrev pub hand_over : SeriesMove → List (ℕ × Given) → List (ℕ × Given)
hand_over h rows =
    put_given h.taker.number (given_over h)
    (end_given h.former.number h.ended.assignment.slot h.ended.assignment.last_month rows)

-- ---- the quotes of a month

-- a stored quote with its series, which lasts as long as the last of the assignments of that series
abbrev pub frozen_quote : List (ℕ × Given) → Given → QuoteRow → Frozen
frozen_quote given g q = record {
  series = g.series;
  item = g.assignment.item;
  last_month = last_of_series g.series given;
  mark = q.mark;
}

-- the quote that an assignment has of the month, if it has one
abbrev pub frozen_row : ℕ → List (ℕ × QuoteRow) → List (ℕ × Given) → ℕ × Given → Option Frozen
frozen_row month quotes given row =
    option_map (frozen_quote given row.1)
    (row_at quote_cmp quote_key (row.1.assignment.slot, month) (held_by row.0 quotes))

-- the stored quotes of a month, by collector and slot
abbrev pub stored_rows : ℕ → List (ℕ × QuoteRow) → List (ℕ × Given) → List Frozen
stored_rows month quotes given = filter_map (frozen_row month quotes given) given

-- the stored quotes of a month, by series
abbrev pub quotes_of_month : ℕ → Office → List Frozen
quotes_of_month month o = by_series (stored_rows month o.quotes o.assignments)

-- A row that an accepted request puts.
pub data Change : Type 0 where
  PutsItem : Item → Change
  PutsPlan : Plan → Change
  PutsCalendar : CalendarPart → Change
  Registers : Registration → Change
  PutsOutlet : Outlet → Change
  -- for this collector, as a series of its own; with the outlet's name of that moment
  Assigns : Registration → Assigned → Change
  -- from one collector to another; with the outlet's name of that moment
  HandsOver : SeriesMove → Change
  -- of this collector
  Quotes : Registration → QuoteRow → Change
  Freezes : Release → Change

-- the office with the row in its place
abbrev pub office_with : Change → Office → Office
office_with (PutsItem i) o = record o { items = put_by (λ i. i.code) i o.items }
office_with (PutsPlan p) o = record o { plans = put_by (λ y. y.year) p o.plans }
office_with (PutsCalendar r) o = record o { calendar = put_by (λ r. r.month) r o.calendar }
office_with (Registers b) o = record o { collectors = put_by (λ b. b.number) b o.collectors }
office_with (PutsOutlet u) o = record o { outlets = put_by (λ u. u.number) u o.outlets }
office_with (Assigns b a) o =
    record o { assignments = put_given b.number (first_of_series b.number a.assignment) o.assignments }
office_with (HandsOver h) o = record o { assignments = hand_over h o.assignments }
office_with (Quotes b q) o = record o { quotes = put_quote b.number q o.quotes }
office_with (Freezes r) o = record o { releases = put_release r o.releases }
