use Rattle.std.proofs.Common.{rules, ap, ◌∙◌}
use Rattle.std.specs.Prelude.{filter}
use Rattle.std.proofs.lemmas.List.Sorted.{answers_always}
use Rattle.cpi_survey.specs.Own.{OwnPart}
use Rattle.cpi_survey.specs.Slots.{quotes_of_slots}
use Rattle.cpi_survey.specs.Within.{is_within}
use Rattle.cpi_survey.proofs.Months.{month_of, sorted_within}
use Rattle.cpi_survey.proofs.own.Own.quotes.Goals as goal

pub returns : goal.returns
returns c =
    let by_month = answers_always _ _ _ (λ f a r next called. search rules) in
    sorted_within c.args.first c.args.last c.args.self.now.quotes c.in_ok-found.found.items _
    (c.in_ok-found.ensures ∙ ap (filter (is_within c.args.first c.args.last))
    (ap quotes_of_slots c.deref.ensures.value ∙ ap (λ (o : OwnPart). o.quotes) c.self.view_is))
    c.sort_by_key.ensures.permutation
    (c.in_ok-sort_by_key.ensures.sorted month_of by_month)
    (c.sort_by_key.ensures.stable month_of by_month)
