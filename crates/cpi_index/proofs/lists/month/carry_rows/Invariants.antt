use Rattle.std.proofs.Common.{◌≡◌, map, take}
use Rattle.cpi_index.specs.Places.{carried_at}
use Rattle.cpi_index.proofs.lists.month.carry_rows.Given as goal

abbrev pub invariant-loop-placed : goal.invariant-loop-placed
invariant-loop-placed l = l.carried.items ≡ map (carried_at l.rows) (take l.placed-index l.rows)
