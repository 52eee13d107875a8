use Rattle.sqlite.specs.Held.{state}
use Rattle.cpi_sql_rows.proofs.Distinct.{rowids_rise}
use Rattle.cpi_sql_rows.proofs.rowids.scan.Goals as goal

pub returns-clause-rise : goal.returns-clause-rise
returns-clause-rise g c = λ clean tree asks.
    let it = c.in_ok-_ids.ensures.read clean.disk in
    rowids_rise c.args.text.now tree (state g.S.Store c.args.conn.now)
    (state g.S.Store c.list.new.conn) it.0 c.in_ok-_ids._ids.items asks it.1 it.2 c.in_ok-_ids.ensures.order
