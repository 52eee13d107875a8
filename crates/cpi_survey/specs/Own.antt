-- A collector's own part of the office.
use Rattle.std.specs.Prelude.{ℕ, List, Option}
use Rattle.std.specs.Ordering.{nat_cmp}
use Rattle.cpi_rows.specs.Keyed.{row_at}
use Rattle.cpi_survey.specs.declared.assignment.Assigned.{Assigned}
use Rattle.cpi_survey.specs.Quote.{QuoteRow, quote_cmp, quote_key}

-- a collector's own part: assignments by slot, quotes by slot and month
pub record OwnPart : Type 0 where
  pub assignments : List Assigned
  pub quotes : List QuoteRow

-- the assignment of a slot
abbrev pub assignment_of : ℕ → OwnPart → Option Assigned
assignment_of slot own = row_at nat_cmp (λ a. a.assignment.slot) slot own.assignments

-- the stored quote of a slot and a month
abbrev pub quote_of : ℕ → ℕ → OwnPart → Option QuoteRow
quote_of slot month own = row_at quote_cmp quote_key (slot, month) own.quotes
