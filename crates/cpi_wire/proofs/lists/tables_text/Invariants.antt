use Rattle.std.proofs.Common.{codes, map, take}
use Rattle.cpi_wire.specs.Line.{frozen_month_data}
use Rattle.cpi_wire.proofs.Joined.{ListSoFar}
use Rattle.cpi_wire.proofs.lists.tables_text.Given as goal

abbrev pub invariant-loop-frozen_month : goal.invariant-loop-frozen_month
invariant-loop-frozen_month l = ListSoFar (codes "{\"tables\":[") l.text.items l.is_first
    (map frozen_month_data (take l.frozen_month-index l.frozen_months))
