use Rattle.cpi_plan.proofs.FaultLemmas.{one_fault}
use Rattle.cpi_plan.proofs.plans.has_one_fault.Goals as goal

pub returns : goal.returns
returns c = one_fault
