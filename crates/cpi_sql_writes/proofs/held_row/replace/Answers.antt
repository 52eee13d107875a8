use Rattle.sqlite.specs.Held.{state}
use Rattle.cpi_sql_writes.proofs.AddedRows.{list_replaces}
use Rattle.cpi_sql_writes.proofs.held_row.replace.Goals as goal

pub returns-clause-replaced : goal.returns-clause-replaced
returns-clause-replaced g c =
    let row = g.T.HeldRow in
    list_replaces row.entry row.table.tree (row.goes_by c.args.holder) (row.is_of c.args.holder) c.args.rows.now
    (state g.S.Store c.args.tx.now.conn.now) (state g.S.Store c.drop_of.new.tx.conn.now)
    (state g.S.Store c.add_all.new.tx.conn.now) c.add_all.result c.in_ok-drop_of.ensures.dropped
    c.add_all.ensures.added
