use Rattle.sqlite.specs.Held.{state}
use Rattle.cpi_sql_writes.proofs.PlanSteps.{nodes_dropped}
use Rattle.cpi_sql_writes.proofs.plan_rows.NodeHeldRow.drop_of.Goals as goal

pub returns-clause-dropped : goal.returns-clause-dropped
returns-clause-dropped g c =
    nodes_dropped (state g.S.Store c.args.tx.now.conn.now) (state g.S.Store c.run_inside.new.tx.conn.now)
    c.run_inside.result c.args.year (rw c.params-to_sql.ensures at c.run_inside.ensures.ran)
