use Rattle.std.proofs.Common.{◌≡◌, ◌≤◌, ◌++◌, drop, map, length}
use Rattle.cpi_index.specs.Totals.{pair_of, pairs}
use Rattle.cpi_index.proofs.lists.totals.entries.Given as goal

abbrev pub invariant-loop-price : goal.invariant-loop-price
invariant-loop-price l = record {
  so_far : map pair_of l.entries.items ++ pairs l.plan (drop l.price-index l.carried) ≡ pairs l.plan l.carried;
  few : length l.entries.items ≤ l.price-index;
}
