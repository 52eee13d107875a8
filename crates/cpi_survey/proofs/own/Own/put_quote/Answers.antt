use Rattle.std.proofs.Common.{ap}
use Rattle.cpi_survey.proofs.Receipts.{greatest_put}
use Rattle.cpi_survey.specs.Quote.{greatest_receipt}
use Rattle.cpi_survey.specs.Slots.{quotes_of_slots}
use Rattle.cpi_survey.proofs.own.Own.put_quote.Goals as goal

pub invariant_of-self-2 : goal.invariant_of-self-2
invariant_of-self-2 c = record {
  assignments = c.self.invariant.assignments;
  slots = c.put_quote.ensures.slots;
  greatest = rw (c.in_ok-put_quote.ensures.ok, c.receipt-receipt.ensures)
      (greatest_put c.args.quote (quotes_of_slots c.self.inside.slots.items)
      (rw (ap (λ h. greatest_receipt h.quotes) c.self.view_is) c.requires));
}
