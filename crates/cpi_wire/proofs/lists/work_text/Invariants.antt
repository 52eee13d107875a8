use Rattle.std.proofs.Common.{codes, map, take}
use Rattle.cpi_wire.specs.Line.{work_row_data}
use Rattle.cpi_wire.proofs.Joined.{ListSoFar}
use Rattle.cpi_wire.proofs.lists.work_text.Given as goal

abbrev pub invariant-loop-row : goal.invariant-loop-row
invariant-loop-row l = ListSoFar (codes "{\"work\":[") l.text.items l.is_first
    (map work_row_data (take l.row-index l.rows))
