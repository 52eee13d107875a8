use Rattle.std.proofs.Common.{◌≡◌, List, Some, length, map}
use Rattle.cpi_wire.specs.Import.{row_asks}
use Rattle.cpi_wire.specs.Input.{Record, IsAt}
use Rattle.cpi_wire.proofs.import.import_rows.Given as goal

-- the rows are those of the records that were read so far
abbrev pub invariant-loop : goal.invariant-loop
invariant-loop l = (given : List Record) × IsAt (λ s. Some s.now) (Some l.fn.body) given l.reader
    × (l.rows.items ≡ map (row_asks l.fn.zone) given) × (length given ≡ l.counter)
