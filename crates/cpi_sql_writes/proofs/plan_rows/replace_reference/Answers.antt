use Rattle.std.proofs.Common.{Ok}
use Rattle.sqlite.specs.Held.{state}
use Rattle.cpi_sql_rows.specs.Lists.{reference_month_in_row, references_for}
use Rattle.cpi_sql_rows.specs.Tables.{table_of_plan_refs}
use Rattle.cpi_sql_writes.specs.PlanSteps.{is_of_year, IsYearNumber}
use Rattle.cpi_sql_writes.proofs.AddedRows.{list_replaces}
use Rattle.cpi_sql_writes.proofs.PlanSteps.{references_dropped}
use Rattle.cpi_sql_writes.proofs.plan_rows.replace_reference.Goals as goal

pub returns-clause-replaced : goal.returns-clause-replaced
returns-clause-replaced g c =
    let old = state g.S.Store c.args.tx.now.conn.now in
    let mid = state g.S.Store c.run_inside.new.tx.conn.now in
    list_replaces reference_month_in_row table_of_plan_refs.tree (IsYearNumber c.args.year) (is_of_year 0 c.args.year)
    (references_for c.args.reference) old mid (state g.S.Store c.add_reference.new.tx.conn.now) c.add_reference.result
    (references_dropped {A = Unit {0}} {E = Unit {0}} old mid (Ok tt) c.args.year
    (rw c.params-to_sql.ensures at c.in_ok-run_inside.ensures.ran))
    c.add_reference.ensures.added
