use Rattle.cpi_sql_writes.proofs.RowWrites.{assignment_written}
use Rattle.sqlite.specs.Held.{state}
use Rattle.cpi_sql_writes.proofs.writes.put_assignment.Goals as goal

pub returns-clause-written : goal.returns-clause-written
returns-clause-written g c =
    let old = state g.S.Store c.args.conn.now in
    let new = state g.S.Store c.put_row.new.conn in
    assignment_written old new c.put_row.result c.args.registration c.args.assigned.now c.in_ok-columns.columns
    c.in_ok-columns.ensures (rw c.parameters-row.ensures at c.put_row.ensures)
