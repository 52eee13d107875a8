use Rattle.sqlite.specs.Held.{state}
use Rattle.cpi_sql_writes.proofs.PlanSteps.{reference_added}
use Rattle.cpi_sql_writes.proofs.plan_rows.add_reference.Goals as goal

pub returns-in-Some-clause-added : goal.returns-in-Some-clause-added
returns-in-Some-clause-added g c =
    rw c.in-Some.is (reference_added (state g.S.Store c.args.tx.now.conn.now)
    (state g.S.Store c.run_inside.new.tx.conn.now) c.run_inside.result c.args.year
    c.month_number.result (record { month = c.in-Some.month }) c.month_number.ensures
    (rw (c.params-to_sql.ensures, c.params-to_sql-in-Some.ensures) at c.run_inside.ensures.ran))
