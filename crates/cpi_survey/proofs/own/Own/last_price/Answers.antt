use Rattle.std.proofs.Common.{sym, ap, ◌∙◌}
use Rattle.cpi_survey.specs.LastPrice.{last_price}
use Rattle.cpi_survey.specs.Own.{OwnPart}
use Rattle.cpi_survey.specs.Slots.{quotes_of_slots}
use Rattle.cpi_survey.proofs.BySlot.{last_of_slot}
use Rattle.cpi_survey.proofs.own.Own.last_price.Goals as goal

pub returns-in-Some : goal.returns-in-Some
returns-in-Some c =
    last_of_slot c.args.assignment.now c.args.month _ c.quotes_of.result.now
    (quotes_of_slots c.deref.result.now) c.quotes_of.ensures.quotes (sym c.in-Some.is ∙ c.observed_before.ensures)
    ∙ ap (last_price c.args.assignment.now c.args.month)
    (ap quotes_of_slots c.deref.ensures.value ∙ ap (λ (o : OwnPart). o.quotes) c.self.view_is)

pub returns-in-None : goal.returns-in-None
returns-in-None c =
    last_of_slot c.args.assignment.now c.args.month _ c.quotes_of.result.now
    (quotes_of_slots c.deref.result.now) c.quotes_of.ensures.quotes (sym c.in-None.is ∙ c.observed_before.ensures)
    ∙ ap (last_price c.args.assignment.now c.args.month)
    (ap quotes_of_slots c.deref.ensures.value ∙ ap (λ (o : OwnPart). o.quotes) c.self.view_is)
