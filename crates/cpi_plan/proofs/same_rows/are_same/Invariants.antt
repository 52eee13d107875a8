use Rattle.std.proofs.Common.{◌≡◌, ℕ, ◌<◌, get_or, true}
use Rattle.cpi_plan.proofs.same_rows.are_same.Given as goal

abbrev pub invariant-loop-i : goal.invariant-loop-i
invariant-loop-i g l = (k : ℕ) (d : _) → k < l.i → g.T.Alike.alike (get_or l.left k d) (get_or l.right k d) ≡ true
