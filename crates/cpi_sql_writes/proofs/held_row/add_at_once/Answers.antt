use Rattle.sqlite.specs.Held.{state}
use Rattle.cpi_sql_writes.specs.Columns.{rows_at_once}
use Rattle.cpi_sql_writes.proofs.ManyRows.{added_for}
use Rattle.cpi_sql_writes.proofs.held_row.add_at_once.Goals as goal

pub returns-clause-added : goal.returns-clause-added
returns-clause-added g c =
    let row = g.T.HeldRow in
    added_for row.table row.entry (row.goes_by c.args.holder) (rows_at_once c.args.many) _ _ c.args.rows.now
    c.requires.at_once (rw c.deref-2.ensures.value c.in_ok-columns.ensures) c.insert_text.ensures
    (state g.S.Store c.args.tx.now.conn.now) (state g.S.Store c.run_inside.new.tx.conn.now) c.run_inside.result
    c.run_inside.ensures.ran
