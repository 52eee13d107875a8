use Rattle.std.proofs.Common.{sym, ◌∙◌}
use Rattle.cpi_plan.proofs.SamePlans.{plan_decides}
use Rattle.cpi_plan.proofs.plans.YearPlan.is_same.Goals as goal

pub returns-clause-same : goal.returns-clause-same
returns-clause-same c =
    let decides = plan_decides c.args.self.now c.args.other.now in
    (λ told. decides.0 (sym c.is_alike.ensures ∙ told), λ same. c.is_alike.ensures ∙ decides.1 same)
