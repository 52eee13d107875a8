use Rattle.sqlite.specs.Held.{state}
use Rattle.cpi_sql_writes.proofs.SlotOffice.{given_puts}
use Rattle.cpi_sql_writes.proofs.handovers.replace_given.Goals as goal

pub returns-clause-put : goal.returns-clause-put
returns-clause-put g c = given_puts c.args.columns.now (state g.S.Store c.args.tx.now.conn.now)
    (state g.S.Store c.run_given.new.tx.conn.now) c.run_given.result c.run_given.ensures.ran
