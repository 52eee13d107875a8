use Rattle.std.proofs.Common.{◌≡◌, ◌++◌, drop, find}
use Rattle.cpi_index.specs.Chaining.{chained_levels, is_level_out}
use Rattle.cpi_index.proofs.lists.chaining.levels_of.Given as goal

abbrev pub invariant-loop-node : goal.invariant-loop-node
invariant-loop-node l = record {
  so_far : l.levels.items ++ chained_levels l.december (drop l.node-index l.within) ≡ chained_levels l.december
      l.within;
  in_limits : find (is_level_out l.december) (drop l.node-index l.within) ≡ find (is_level_out l.december) l.within;
}
