-- A decision that stores a quote gives it a receipt above the collector's greatest one, in a slot of the collector.
use Rattle.std.specs.Prelude.{◌<◌, Result, Ok, IsSome, ⊤}
use Rattle.cpi_rows.specs.Keyed.{row_by_number}
use Rattle.cpi_survey.specs.Own.{OwnPart}
use Rattle.cpi_survey.specs.Quote.{greatest_receipt}
use Rattle.cpi_store.specs.declared.registration.Registration.{Registration}
use Rattle.cpi_store.specs.Office.{Office, office_with, Quotes}
use Rattle.cpi_survey.specs.declared.decision.Decision.{Decision}
use Rattle.cpi_survey.specs.declared.decision.Decision.TheVariants.{Put}
use Rattle.cpi_survey.specs.declared.refusal.Refusal.{Refusal as EntryRefusal}

abbrev pub IsNewReceipt : Result Decision EntryRefusal → OwnPart → Type 0
IsNewReceipt (Ok (Put quote)) own =
    (greatest_receipt own.quotes < quote.receipt)
    × IsSome (row_by_number (λ a. a.assignment.slot) quote.slot own.assignments)
IsNewReceipt _ own = ⊤

-- a new quote is stored, and nothing else
abbrev pub office_with_quote : Registration → Result Decision EntryRefusal → Office → Office
office_with_quote b (Ok (Put quote)) o = office_with (Quotes b quote) o
office_with_quote b _ o = o
