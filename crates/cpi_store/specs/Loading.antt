-- The parts of a survey that is made of rows in their order.
use Rattle.std.specs.Prelude.{◌≡◌, ℕ, List, map, Option, Some, None, if◌then◌else◌}
use Rattle.std.specs.List.{filter_map}
use Rattle.cpi_survey.specs.Own.{OwnPart}
use Rattle.cpi_survey.specs.Quote.{QuoteRow}
use Rattle.cpi_survey.specs.declared.assignment.Assignment.{Assignment}
use Rattle.cpi_store.specs.Holders.{ArePlaced, all_assignments, quotes_of_holders, collectors_of, named_by}
use Rattle.cpi_store.specs.Outlet.{with_name}
use Rattle.cpi_store.specs.Series.{own_series, same_series}
use Rattle.cpi_store.specs.declared.registration.Registration.{Registration}
use Rattle.cpi_store.specs.declared.given.Given.{Given}
use Rattle.cpi_store.specs.declared.holder.Holder.{Holder}
use Rattle.cpi_store.specs.declared.outlet.Outlet.{Outlet}
use Rattle.cpi_store.specs.declared.taken_over.TakenOver.{TakenOver}

-- rows of one collector, each with the collector's number
abbrev pub rows_with_number : {X : Type 0} → ℕ → List X → List (ℕ × X)
rows_with_number number rows = map (λ x. (number, x)) rows

-- what a slot is for, without its series
abbrev pub without_series : ℕ × Given → ℕ × Assignment
without_series row = (row.0, row.1.assignment)

-- a slot has taken its series over if another slot names the series
abbrev pub taken_row : ℕ × Given → Option TakenOver
taken_row row =
    if same_series row.1.series (own_series row.0 row.1.assignment.slot) then None
    else Some (record { collector = row.0; slot = row.1.assignment.slot; series = row.1.series })

abbrev pub taken_rows : List (ℕ × Given) → List TakenOver
taken_rows rows = filter_map taken_row rows

-- what a collector has, of what the slots were given and the quotes
abbrev pub own_made : List Outlet → List Given → List QuoteRow → OwnPart
own_made outlets given quotes = record {
  assignments = map (with_name outlets) (map (λ g. g.assignment) given);
  quotes = quotes;
}

-- the holders are these collectors, who have these rows and no others
pub record HaveRows (outlets : List Outlet) (registrations : List Registration) (given : List (ℕ × Given))
    (stored : List (ℕ × QuoteRow)) (holders : List Holder) : Type 0 where
  pub collectors : collectors_of holders ≡ registrations
  pub assignments : all_assignments holders ≡ map without_series given
  pub quotes : quotes_of_holders holders ≡ stored
  pub names : named_by outlets (map (λ h. h.own.assignments) holders) ≡ map (λ h. h.own.assignments) holders
  pub placed : ArePlaced outlets (map (λ h. h.own.assignments) holders)
