use Rattle.sqlite.specs.Held.{state}
use Rattle.cpi_sql_writes.proofs.ReleaseSteps.{frozen_dropped}
use Rattle.cpi_sql_writes.proofs.release_rows.FrozenQuoteHeldRow.drop_of.Goals as goal

pub returns-clause-dropped : goal.returns-clause-dropped
returns-clause-dropped g c =
    frozen_dropped (state g.S.Store c.args.tx.now.conn.now) (state g.S.Store c.run_inside.new.tx.conn.now)
    c.run_inside.result c.args.numbers.month c.args.numbers.revision
    (rw (c.params-to_sql.ensures, c.params-to_sql-2.ensures) at c.run_inside.ensures.ran)
