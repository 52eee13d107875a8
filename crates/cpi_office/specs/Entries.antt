-- The verdict on an entry of a collector.
use Rattle.std.specs.Prelude.{ℕ, Option, Some, None, Result, Ok, Err}
use Rattle.cpi_survey.specs.Quote.{QuoteRow}
use Rattle.cpi_survey.specs.Entry.{EntryRow}
use Rattle.cpi_survey.specs.Decision.{entry_decision}
use Rattle.cpi_store.specs.declared.registration.Registration.{Registration}
use Rattle.cpi_survey.specs.declared.decision.Decision.{Decision}
use Rattle.cpi_survey.specs.declared.decision.Decision.TheVariants.{Again, Put}
use Rattle.cpi_survey.specs.declared.refusal.Refusal.{Refusal as EntryRefusal}
use Rattle.cpi_store.specs.Office.{Quotes}
use Rattle.cpi_office.specs.Refusal.{of_survey}
use Rattle.cpi_office.specs.Projections.{View, OwnView}
use Rattle.cpi_office.specs.declared.request.Request.{Request}
use Rattle.cpi_office.specs.declared.request.Request.TheVariants as request
use Rattle.cpi_office.specs.Verdicts.{Verdict, Refuses, Stands, Makes}

-- the quote that an entry makes
abbrev pub quote_of_entry : EntryRow → ℕ → QuoteRow
quote_of_entry entry receipt = record { slot = entry.slot; month = entry.month; mark = entry.mark; receipt = receipt }

-- the verdict on an entry of this collector, by its decision
abbrev pub decision_verdict : Registration → EntryRow → Result Decision EntryRefusal → Verdict
decision_verdict b entry (Err f) = Refuses (of_survey f)
decision_verdict b entry (Ok (Again receipt)) = Stands (Quotes b (quote_of_entry entry receipt))
decision_verdict b entry (Ok (Put q)) = Makes (Quotes b q)

abbrev pub entry_verdict : ℕ → ℕ → EntryRow → View → Option OwnView → Option Verdict
entry_verdict key now entry v None = None
entry_verdict key now entry v (Some own) =
    let registration : Registration = record { number = own.number; key = key } in
    Some (decision_verdict registration entry (entry_decision now entry v.public own.part))

-- a collector can change something only by an entry
abbrev pub of_collector : ℕ → ℕ → Request → View → Option Verdict
of_collector key now (request.Submit entry) v = entry_verdict key now entry v v.own
of_collector key now _ v = None
