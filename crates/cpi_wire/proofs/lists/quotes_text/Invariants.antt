use Rattle.std.proofs.Common.{codes, map, take}
use Rattle.cpi_wire.specs.Line.{quote_data}
use Rattle.cpi_wire.proofs.Joined.{ListSoFar}
use Rattle.cpi_wire.proofs.lists.quotes_text.Given as goal

abbrev pub invariant-loop-quote : goal.invariant-loop-quote
invariant-loop-quote l = ListSoFar (codes "{\"quotes\":[") l.text.items l.is_first
    (map quote_data (take l.quote-index l.quotes))
