use Rattle.std.proofs.Common.{[]}
use Rattle.cpi_index.specs.Places.{AreBuckets}
use Rattle.cpi_index.proofs.month_groups.lists_with_room.Given as goal

abbrev pub invariant-loop-i : goal.invariant-loop-i
invariant-loop-i l = AreBuckets l.i [] l.groups.items
