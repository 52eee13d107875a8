use Rattle.std.proofs.Common.{codes, map, take}
use Rattle.cpi_wire.specs.Line.{item_data}
use Rattle.cpi_wire.proofs.Joined.{ListSoFar}
use Rattle.cpi_wire.proofs.lists.items_text.Given as goal

abbrev pub invariant-loop-item : goal.invariant-loop-item
invariant-loop-item l = ListSoFar (codes "{\"items\":[") l.text.items l.is_first
    (map item_data (take l.item-index l.items))
