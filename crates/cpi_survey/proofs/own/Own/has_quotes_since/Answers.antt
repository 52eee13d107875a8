use Rattle.std.proofs.Common.{ap, sym, ◌∙◌}
use Rattle.std.specs.Prelude.{nat_le}
use Rattle.std.specs.Option.{option_copied}
use Rattle.cpi_survey.specs.Own.{OwnPart}
use Rattle.cpi_survey.specs.Quote.{QuoteRow}
use Rattle.cpi_survey.specs.Slots.{quotes_of_slots}
use Rattle.cpi_survey.specs.Within.{has_quotes_since}
use Rattle.cpi_survey.proofs.Since.{is_le_tells, since_last, since_none}
use Rattle.cpi_survey.proofs.own.Own.has_quotes_since.Goals as goal

pub returns-in-None : goal.returns-in-None
returns-in-None c =
    since_none c.args.slot c.args.month c.quotes_of.result.now
    (quotes_of_slots c.deref.result.now) c.quotes_of.ensures.quotes
    (sym c.last.ensures.value ∙ ap option_copied c.in-None.is)
    ∙ ap (has_quotes_since c.args.slot c.args.month)
    (ap quotes_of_slots c.deref.ensures.value ∙ ap (λ (o : OwnPart). o.quotes) c.self.view_is)

pub returns-in-Some : goal.returns-in-Some
returns-in-Some c =
    c.le.ensures ∙ is_le_tells c.args.month c.quote.inside.month
    ∙ ap (λ (q : QuoteRow). nat_le c.args.month q.month) c.quote.view_is
    ∙ since_last c.args.slot c.args.month c.quotes_of.result.now
    (quotes_of_slots c.deref.result.now) _ c.quotes_of.ensures.quotes c.quotes_of.ensures.order
    (sym c.last.ensures.value ∙ ap option_copied c.in-Some.is)
    ∙ ap (has_quotes_since c.args.slot c.args.month)
    (ap quotes_of_slots c.deref.ensures.value ∙ ap (λ (o : OwnPart). o.quotes) c.self.view_is)
