use Rattle.std.proofs.Common.{◌≡◌, take}
use Rattle.cpi_index.proofs.updating.own_weights.Given as goal

abbrev pub invariant-loop-weight : goal.invariant-loop-weight
invariant-loop-weight l = l.weights.items ≡ take l.weight-index l.plan.weights
