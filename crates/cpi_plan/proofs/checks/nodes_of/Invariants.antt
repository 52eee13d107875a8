use Rattle.std.proofs.Common.{◌≡◌}
use Rattle.cpi_plan.specs.Sums.{sum_at}
use Rattle.cpi_plan.specs.Steps.{nodes_with}
use Rattle.cpi_plan.proofs.checks.nodes_of.Given as goal

abbrev pub invariant-loop-title : goal.invariant-loop-title
invariant-loop-title l = l.nodes.items ≡ nodes_with (sum_at l.sums) l.yielded
