use Rattle.std.proofs.Common.{ap, refl, ◌∙◌}
use Rattle.cpi_rows.specs.Keyed.{with_row}
use Rattle.cpi_survey.specs.Quote.{quote_cmp, quote_key}
use Rattle.cpi_survey.proofs.BySlot.{none_by_slot, put_next}
use Rattle.cpi_survey.proofs.slots.by_slot.Goals as goal

pub loop-quote-init : goal.loop-quote-init
loop-quote-init c = record {
  slots = rw c.new-slots.ensures.items none_by_slot;
  quotes =
      rw c.new-slots.ensures.items refl;
}

pub loop-quote-preserved : goal.loop-quote-preserved
loop-quote-preserved c = record {
  slots = c.put_quote.ensures.slots;
  quotes =
      c.in_ok-put_quote.ensures.ok
      ∙ ap (with_row quote_cmp quote_key c.quote-item.result) c.loop-quote.invariant.quotes
      ∙ put_next c.args.quotes.now c.loop-quote.quote-index c.quote-item.result c.requires c.loop-quote-test.true
      c.quote-item.is;
}
