use Rattle.cpi_plan.proofs.PlanNodes.{planned_nodes}
use Rattle.cpi_plan.proofs.plans.nodes_are_in_order.Goals as goal

pub returns : goal.returns
returns c = planned_nodes
