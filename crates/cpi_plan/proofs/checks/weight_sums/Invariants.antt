use Rattle.std.proofs.Common.{◌≡◌, ◌*◌, ◌^◌, ◌≤◌, take}
use Rattle.cpi_codes.specs.declared.codes.Code.{Code}
use Rattle.cpi_plan.specs.Sums.{sum_at, weight_under}
use Rattle.cpi_plan.proofs.checks.weight_sums.Given as goal

abbrev pub invariant-loop-weight : goal.invariant-loop-weight
invariant-loop-weight l = record {
  so_far : (q : Code) → sum_at l.sums q ≡ weight_under q (take l.weight-index l.weights);
  fits : (q : Code) → sum_at l.sums q ≤ 2 ^ 32 * l.weight-index;
}
