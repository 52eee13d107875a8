use Rattle.std.proofs.Common.{Err}
use Rattle.std.specs.Ordering.{nat_cmp}
use Rattle.std.proofs.lemmas.Bool.{false≢true}
use Rattle.std.proofs.lemmas.Cmp.{nat_cmp_total}
use Rattle.cpi_rows.specs.Keyed.{IsPlace}
use Rattle.cpi_rows.proofs.Places.{missing_at_gap}
use Rattle.cpi_survey.specs.declared.slot_quotes.SlotQuotes.{SlotQuotes}
use Rattle.cpi_survey.proofs.BySlot.{quotes_added, slots_added}
use Rattle.cpi_survey.proofs.slots.place_for.Goals as goal

pub returns-in_err-insert-in-Err-clause-known : goal.returns-in_err-insert-in-Err-clause-known
returns-in_err-insert-in-Err-clause-known c = λ some.
    let place : IsPlace nat_cmp (λ (s : SlotQuotes). s.slot) c.args.slot c.args.slots.now.items (Err c.in-Err.at) =
    rw (← c.deref.ensures.value) c.in-Err.ensures in
    absurd (false≢true (rw (missing_at_gap nat_cmp_total (λ (s : SlotQuotes). s.slot) c.args.slots.now.items
    c.args.slot c.in-Err.at place) at some))

pub returns-in_ok-insert-in-Err-clause-quotes : goal.returns-in_ok-insert-in-Err-clause-quotes
returns-in_ok-insert-in-Err-clause-quotes c =
    rw c.in_ok-insert-in-Err.ensures.items (quotes_added c.args.slots.now.items c.requires c.in-Err.at _
    c.new-quotes.ensures.items)

pub returns-in_ok-insert-in-Err-clause-slots : goal.returns-in_ok-insert-in-Err-clause-slots
returns-in_ok-insert-in-Err-clause-slots c =
    let place : IsPlace nat_cmp (λ (s : SlotQuotes). s.slot) c.args.slot c.args.slots.now.items (Err c.in-Err.at) =
    rw (← c.deref.ensures.value) c.in-Err.ensures in
    rw c.in_ok-insert-in-Err.ensures.items (slots_added c.args.slots.now.items c.requires c.in-Err.at
    (record { slot = c.args.slot; quotes = c.new-quotes.result }) c.new-quotes.ensures.items place)
