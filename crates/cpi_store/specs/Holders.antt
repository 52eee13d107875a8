-- A collector with all that is the collector's, as the book in memory keeps it.
use Rattle.std.specs.Prelude.{ℕ, ◌==◌, ◌&&◌, List, map, max, Option, option_map, IsSome, ⊤, if◌then◌else◌}
use Rattle.std.specs.List.{AllByRecursion, filter_map, flat_map}
use Rattle.cpi_rows.specs.Keyed.{row_by_number, row_at}
use Rattle.cpi_rows.specs.Gathered.{rows_with_holders}
use Rattle.cpi_survey.specs.Quote.{QuoteRow, quote_cmp, quote_key}
use Rattle.cpi_survey.specs.declared.assignment.Assignment.{Assignment}
use Rattle.cpi_survey.specs.declared.assignment.Assigned.{Assigned}
use Rattle.cpi_survey.specs.Assignment.{until}
use Rattle.cpi_survey.specs.Public.{PublicPart}
use Rattle.cpi_store.specs.Outlet.{with_name}
use Rattle.cpi_store.specs.declared.outlet.Outlet.{Outlet}
use Rattle.cpi_store.specs.declared.registration.Registration.{Registration}
use Rattle.cpi_release.specs.State.{State}
use Rattle.cpi_store.specs.Office.{Office}
use Rattle.cpi_store.specs.Series.{given_in, last_known, series_named_in}
use Rattle.cpi_store.specs.declared.series_ends.SeriesEnds.{SeriesEnds}
use Rattle.cpi_codes.specs.declared.series.SeriesId.{SeriesId}
use Rattle.cpi_index.specs.Frozen.{Frozen}
use Rattle.cpi_store.specs.declared.given.Given.{Given}
use Rattle.cpi_store.specs.declared.taken_over.TakenOver.{TakenOver}
use Rattle.cpi_rows.specs.Held.{held_by}
use Rattle.cpi_store.specs.declared.holder.Holder.{Holder}
use Rattle.cpi_release.specs.declared.release.Release.{Release}

abbrev pub collector_of_holder : Holder → Registration
collector_of_holder h = record { number = h.number; key = h.key }

abbrev pub collectors_of : List Holder → List Registration
collectors_of hs = map collector_of_holder hs

abbrev pub assignments_of : Holder → List Assignment
assignments_of h = map (λ a. a.assignment) h.own.assignments

abbrev pub quotes_of : Holder → List QuoteRow
quotes_of h = h.own.quotes

abbrev pub all_assignments : List Holder → List (ℕ × Assignment)
all_assignments hs = rows_with_holders (λ h. h.number) assignments_of hs

abbrev pub quotes_of_holders : List Holder → List (ℕ × QuoteRow)
quotes_of_holders hs = rows_with_holders (λ h. h.number) quotes_of hs

-- the assignments of all holders, each with its series
abbrev pub all_given : List TakenOver → List Holder → List (ℕ × Given)
all_given taken hs = map (given_in taken) (all_assignments hs)

-- one holder's assignments, each with its series
abbrev pub own_given : List TakenOver → Holder → List (ℕ × Given)
own_given taken h = map (given_in taken) (map (λ a. (h.number, a)) (assignments_of h))

-- a stored quote, with the last month that is known of its series
abbrev pub quote_of_series : SeriesEnds → Assignment → SeriesId → QuoteRow → Frozen
quote_of_series ends a series q = record {
  series = series;
  item = a.item;
  last_month = max a.last_month (last_known ends series);
  mark = q.mark;
}

-- the stored quotes of a month of one collector, by slot
abbrev pub own_row : ℕ → SeriesEnds → List TakenOver → Holder → Assigned → Option Frozen
own_row month ends taken h a =
    option_map (quote_of_series ends a.assignment (series_named_in taken h.number a.assignment.slot))
    (row_at quote_cmp quote_key (a.assignment.slot, month) h.own.quotes)

abbrev pub own_rows : ℕ → SeriesEnds → List TakenOver → Holder → List Frozen
own_rows month ends taken h = filter_map (own_row month ends taken h) h.own.assignments

-- the same of all holders
abbrev pub rows_of_holders : ℕ → SeriesEnds → List TakenOver → List Holder → List Frozen
rows_of_holders month ends taken hs = flat_map (λ h. own_rows month ends taken h) hs

-- the assignment, with this last month if it is that of this collector's slot
abbrev pub assignment_until : ℕ → ℕ → ℕ → ℕ × Assignment → ℕ × Assignment
assignment_until number slot last_month row =
    if row.0 == number && row.1.slot == slot then (row.0, until last_month row.1) else row

-- each slot that took a series over has its assignment
abbrev pub IsGiven : List (ℕ × Assignment) → TakenOver → Type 0
IsGiven assignments t = IsSome (row_by_number (λ a. a.slot) t.slot (held_by t.collector assignments))

-- the office that a public part, the outlets, the releases, and the holders with the series that they took over make up
abbrev pub office_of : PublicPart → List Outlet → List Release → List TakenOver → List Holder → Office
office_of public outlets releases taken holders = record {
  items = public.items;
  plans = public.plans;
  calendar = public.calendar;
  collectors = collectors_of holders;
  outlets = outlets;
  assignments = all_given taken holders;
  quotes = quotes_of_holders holders;
  releases = releases;
}

-- the office that a book in memory holds, and how often it failed
pub record Kept : Type 0 where
  pub office : Office
  pub failures : ℕ

-- the state of a book in memory, whose store is always clean and which a crash leaves nowhere
abbrev pub kept_state : Kept → State Office
kept_state k = record {
  held = k.office;
  failures = k.failures;
  is_kept = ⊤;
  is_clean = ⊤;
  clean_is_kept = λ x. x;
  may_leave = λ _. ⊥;
}

-- the assignments of each holder, with the names that the outlets have
abbrev pub named_by : List Outlet → List (List Assigned) → List (List Assigned)
named_by outlets lists = map (λ own. map (with_name outlets) (map (λ a. a.assignment) own)) lists

-- the outlet of each assignment is there
abbrev pub HasOutlet : List Outlet → Assigned → Type 0
HasOutlet outlets a = IsSome (row_by_number (λ u. u.number) a.assignment.outlet outlets)

abbrev pub ArePlaced : List Outlet → List (List Assigned) → Type 0
ArePlaced outlets lists = AllByRecursion (AllByRecursion (HasOutlet outlets)) lists
