use Rattle.std.proofs.Common.{◌≡◌, ◌++◌, drop, find, None}
use Rattle.cpi_index.specs.Weights.{lacks_a_level, is_moved_out, moved_weights}
use Rattle.cpi_index.proofs.updating.moved_all.Given as goal

abbrev pub invariant-loop-row : goal.invariant-loop-row
invariant-loop-row l = record {
  levelled : find lacks_a_level (drop l.row-index l.rows) ≡ None;
  so_far : l.weights.items ++ moved_weights (drop l.row-index l.rows) ≡ moved_weights l.rows;
  in_limits : find is_moved_out (drop l.row-index l.rows) ≡ find is_moved_out l.rows;
}
