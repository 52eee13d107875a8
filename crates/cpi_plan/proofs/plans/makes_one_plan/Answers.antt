use Rattle.cpi_plan.proofs.BuiltLemmas.{one_plan}
use Rattle.cpi_plan.proofs.plans.makes_one_plan.Goals as goal

pub returns : goal.returns
returns c = one_plan
