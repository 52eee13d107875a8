use Rattle.std.proofs.Common.{◌≡◌, take}
use Rattle.cpi_plan.specs.Stored.{weights_in}
use Rattle.cpi_plan.proofs.stored.weights_of.Given as goal

abbrev pub invariant-nodes : goal.invariant-nodes
invariant-nodes l = l.weights.items ≡ weights_in (take l.node-index l.nodes)
