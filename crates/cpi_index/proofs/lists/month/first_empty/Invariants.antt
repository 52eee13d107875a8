use Rattle.cpi_index.specs.Places.{is_empty_at, NoneBelow}
use Rattle.cpi_index.proofs.lists.month.first_empty.Given as goal

abbrev pub invariant-loop-place : goal.invariant-loop-place
invariant-loop-place l = NoneBelow (is_empty_at l.groups) l.place
