use Rattle.cpi_sql_writes.proofs.RowWrites.{day_written}
use Rattle.sqlite.specs.Held.{state}
use Rattle.cpi_sql_writes.proofs.writes.put_calendar.Goals as goal

pub returns-clause-written : goal.returns-clause-written
returns-clause-written g c =
    let old = state g.S.Store c.args.conn.now in
    let new = state g.S.Store c.put_row.new.conn in
    let row = c.args.row in
    let month = c.day_number-month.result in
    let is = c.day_number-month.ensures.is in
    let runs = rw (
      c.params-to_sql.ensures,
      c.params-to_sql-2.ensures,
      c.params-to_sql-3.ensures,
      c.params-to_sql-4.ensures,
      c.moment_value-opens.ensures.value,
      c.moment_value-closes.ensures.value,
      c.moment_value-publishes.ensures.value,
      c.opens.ensures,
      c.closes.ensures,
      c.publishes.ensures,
    ) at c.put_row.ensures in
    day_written old new c.put_row.result row month row.opens row.closes row.publishes is runs
