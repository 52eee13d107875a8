use Rattle.std.proofs.Common.{ap, ◌∙◌}
use Rattle.cpi_rows.specs.Keyed.{row_at}
use Rattle.cpi_survey.specs.Own.{OwnPart}
use Rattle.cpi_survey.specs.Quote.{quote_cmp, quote_key}
use Rattle.cpi_survey.specs.Slots.{quotes_of_slots}
use Rattle.cpi_survey.proofs.BySlot.{row_of_slot}
use Rattle.cpi_survey.proofs.own.Own.quote.Goals as goal

pub returns : goal.returns
returns c =
    c.find_row.ensures
    ∙ ap (row_at quote_cmp quote_key (c.args.slot, c.args.month)) c.quotes_of.ensures.quotes
    ∙ row_of_slot (c.args.slot, c.args.month) (quotes_of_slots c.deref.result.now)
    ∙ ap (row_at quote_cmp quote_key (c.args.slot, c.args.month))
    (ap quotes_of_slots c.deref.ensures.value ∙ ap (λ (o : OwnPart). o.quotes) c.self.view_is)
