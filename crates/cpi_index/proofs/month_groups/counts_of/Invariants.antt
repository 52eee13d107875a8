use Rattle.std.proofs.Common.{◌≡◌, length}
use Rattle.cpi_index.proofs.month_groups.counts_of.Given as goal

abbrev pub invariant-loop-place : goal.invariant-loop-place
invariant-loop-place l = length l.counts.items ≡ l.count
