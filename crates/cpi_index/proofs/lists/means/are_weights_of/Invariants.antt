use Rattle.std.proofs.Common.{◌≡◌, ℕ, ◌<◌, get_or, true}
use Rattle.cpi_codes.specs.CodeOrder.{is_same_code}
use Rattle.cpi_plan.specs.declared.plan_rows.Weight.{Weight}
use Rattle.cpi_index.proofs.lists.means.are_weights_of.Given as goal

abbrev pub invariant-loop-i : goal.invariant-loop-i
invariant-loop-i l = (k : ℕ) (d e : Weight) → k < l.i →
    is_same_code (get_or l.own k d).code (get_or l.weights k e).code ≡ true
