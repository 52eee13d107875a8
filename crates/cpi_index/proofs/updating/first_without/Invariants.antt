use Rattle.std.proofs.Common.{◌≡◌, drop, find}
use Rattle.cpi_index.specs.Weights.{lacks_a_level}
use Rattle.cpi_index.proofs.updating.first_without.Given as goal

abbrev pub invariant-loop-row : goal.invariant-loop-row
invariant-loop-row l = find lacks_a_level (drop l.row-index l.rows) ≡ find lacks_a_level l.rows
