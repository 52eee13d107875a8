use Rattle.cpi_index.specs.Totals.{is_zero_at}
use Rattle.cpi_index.specs.Places.{NoneBelow}
use Rattle.cpi_index.proofs.lists.totals.first_zero.Given as goal

abbrev pub invariant-loop-place : goal.invariant-loop-place
invariant-loop-place l = NoneBelow (is_zero_at l.sums) l.place
