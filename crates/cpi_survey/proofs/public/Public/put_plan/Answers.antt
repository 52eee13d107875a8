use Rattle.std.proofs.Common.{List, ap}
use Rattle.std.proofs.lemmas.Result.{on_ok_weaker}
use Rattle.cpi_plan.specs.Plan.{Plan}
use Rattle.cpi_survey.specs.Public.{PublicPart}
use Rattle.cpi_survey.proofs.public.Public.put_plan.Goals as goal

pub returns-clause-replaced : goal.returns-clause-replaced
returns-clause-replaced c = rw (← c.self.view_is) c.put_row.ensures.replaced

pub returns-clause-ok : goal.returns-clause-ok
returns-clause-ok c =
    let with_plans : List Plan → PublicPart = λ plans.
    record { items = c.self.inside.items; plans = plans; calendar = c.self.inside.calendar.items } in
    rw (← c.self.view_is) (on_ok_weaker c.put_row.result (λ done. ap with_plans done) c.put_row.ensures.ok)
