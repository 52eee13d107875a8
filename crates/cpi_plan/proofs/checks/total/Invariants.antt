use Rattle.std.proofs.Common.{◌≡◌, ◌*◌, ◌^◌, ◌≤◌, take, sum_by}
use Rattle.cpi_plan.proofs.checks.total.Given as goal

abbrev pub invariant-loop-weight : goal.invariant-loop-weight
invariant-loop-weight l = (l.sum ≡ sum_by (λ w. w.parts) (take l.weight-index l.weights))
    × (l.sum ≤ 2 ^ 32 * l.weight-index)
