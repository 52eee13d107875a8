use Rattle.std.proofs.Common.{◌≡◌, ◌++◌, drop, map}
use Rattle.cpi_index.specs.Weights.{with_levels, level_in}
use Rattle.cpi_index.proofs.lists.updating.levelled.Given as goal

abbrev pub invariant-loop-weight : goal.invariant-loop-weight
invariant-loop-weight l = l.rows.items ++ map (with_levels (level_in l.link) (level_in l.reference))
    (drop l.weight-index l.weights) ≡ map (with_levels (level_in l.link) (level_in l.reference)) l.weights
