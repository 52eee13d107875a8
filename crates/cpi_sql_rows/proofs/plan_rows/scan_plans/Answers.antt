use Rattle.sqlite.specs.Held.{state}
use Rattle.cpi_sql_rows.proofs.PlanYears.{plan_rows_found}
use Rattle.cpi_sql_rows.proofs.plan_rows.scan_plans.Goals as goal

pub returns-clause-found : goal.returns-clause-found
returns-clause-found g c = λ clean tree place asks.
    let it = c.in_ok-_rows.ensures.read clean.disk in
    plan_rows_found c.args.text.now tree place (state g.S.Store c.args.conn.now)
    (state g.S.Store c.list.new.conn) it.0 c.in_ok-_rows._rows.items asks it.1 it.2 c.in_ok-_rows.ensures.order
