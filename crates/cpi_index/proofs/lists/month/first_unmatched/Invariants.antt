use Rattle.cpi_index.specs.Places.{is_unmatched_at, NoneBelow}
use Rattle.cpi_index.proofs.lists.month.first_unmatched.Given as goal

abbrev pub invariant-loop-place : goal.invariant-loop-place
invariant-loop-place l = NoneBelow (is_unmatched_at l.groups l.unchanged) l.place
