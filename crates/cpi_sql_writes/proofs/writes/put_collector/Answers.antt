use Rattle.sqlite.specs.Held.{state}
use Rattle.cpi_sql_writes.proofs.RowWrites.{collector_written}
use Rattle.cpi_sql_writes.proofs.writes.put_collector.Goals as goal

pub returns-clause-written : goal.returns-clause-written
returns-clause-written g c =
    let old = state g.S.Store c.args.conn.now in
    let new = state g.S.Store c.put_row.new.conn in
    collector_written old new c.put_row.result c.args.registration _ _ c.in_ok-columns.ensures (rw (
      c.params-to_sql.ensures,
      c.params-to_sql-2.ensures,
      c.as_str.ensures.value,
    ) at c.put_row.ensures)
