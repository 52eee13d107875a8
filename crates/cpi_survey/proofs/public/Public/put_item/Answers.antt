use Rattle.std.proofs.Common.{List, ap}
use Rattle.std.proofs.lemmas.Result.{on_ok_weaker}
use Rattle.cpi_survey.specs.Public.{PublicPart}
use Rattle.cpi_plan.specs.declared.items.Item.{Item}
use Rattle.cpi_survey.proofs.public.Public.put_item.Goals as goal

pub returns-clause-replaced : goal.returns-clause-replaced
returns-clause-replaced c = rw (← c.self.view_is) c.put.ensures.replaced

pub returns-clause-ok : goal.returns-clause-ok
returns-clause-ok c =
    let with_items : List Item → PublicPart = λ items.
    record { items = items; plans = c.self.inside.plans.items; calendar = c.self.inside.calendar.items } in
    rw (← c.self.view_is) (on_ok_weaker c.put.result (λ done. ap with_items done) c.put.ensures.ok)
