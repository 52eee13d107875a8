use Rattle.std.proofs.Common.{◌≡◌, ◌*◌, ◌≤◌, take, false}
use Rattle.cpi_codes.specs.declared.codes.Code.{Code}
use Rattle.cpi_plan.specs.Plan.{has_zero_weight}
use Rattle.cpi_plan.specs.Sums.{sum_at, weight_under}
use Rattle.cpi_index.proofs.summing.weights_under.Given as goal
use Rattle.cpi_index.specs.declared.limits.TheConstants.{MOST_WEIGHT_IN_USE}

abbrev pub invariant-loop-weight : goal.invariant-loop-weight
invariant-loop-weight l = record {
  so_far : (q : Code) → sum_at l.sums q ≡ weight_under q (take l.weight-index l.weights);
  positive : has_zero_weight (take l.weight-index l.weights) ≡ false;
  most : (q : Code) → sum_at l.sums q ≤ MOST_WEIGHT_IN_USE * l.weight-index;
}
