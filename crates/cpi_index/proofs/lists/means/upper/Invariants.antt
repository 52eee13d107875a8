use Rattle.std.proofs.Common.{◌≡◌, map, take}
use Rattle.cpi_index.specs.Means.{upper_row}
use Rattle.cpi_index.specs.Weights.{with_weights}
use Rattle.cpi_index.proofs.lists.means.upper.Given as goal

abbrev pub invariant-loop-node : goal.invariant-loop-node
invariant-loop-node l = l.indices.items ≡ map (upper_row (with_weights l.plan l.weights) l.elementary)
    (take l.node-index l.nodes)
