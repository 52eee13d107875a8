use Rattle.std.proofs.Common.{sym, subst}
use Rattle.sqlite.specs.Held.{state}
use Rattle.cpi_store.specs.Office.{HandsOver, given_over}
use Rattle.cpi_sql_rows.proofs.FoundTables.{on_ok_implies}
use Rattle.cpi_sql_rows.specs.Lists.{office_in}
use Rattle.cpi_sql_rows.specs.Shelf.{HasTables}
use Rattle.cpi_sql_rows.specs.Steps.{outside}
use Rattle.cpi_sql_rows.specs.Tables.{table_of_assignments_2}
use Rattle.cpi_sql_writes.specs.Rest.{MakesOnly}
use Rattle.cpi_sql_writes.specs.GivenColumns.{IsNumberFree, ReplacesGiven}
use Rattle.cpi_sql_writes.proofs.AddedRows.{step_ready}
use Rattle.cpi_sql_writes.proofs.HandoverOffice.{handed_over, free_after}
use Rattle.cpi_sql_writes.proofs.Withins.{inside_then, on_given}
use Rattle.cpi_sql_writes.proofs.handovers.SeriesMoveOneChange.write.Goals as goal

pub returns-clause-written : goal.returns-clause-written
returns-clause-written g c =
    let h = c.args.self.now in
    let a = state g.S.Store c.args.tx.now.conn.now in
    let b = state g.S.Store c.replace_given.new.tx.conn.now in
    let d = state g.S.Store c.add_given.new.tx.conn.now in
    let first = c.in_ok-replace_given.ensures.put in
    let next = c.add_given.ensures.put in
    inside_then a b d first next (λ clean_b clean inside. on_given c.add_given.result _ _ (λ can.
    on_given c.add_given.result (HasTables (outside a)) (MakesOnly (HandsOver h) (outside a) (outside d)) (λ has.
    let one = first.step clean_b inside h.former.number h.ended c.in_ok-former.ensures
    (record { schema = has.schema; rowids = has.assignment_ids }) in
    let free = subst (IsNumberFree h.taker.number h.assigned.assignment.slot) (sym (one.rows.0 has.assignments).0)
    (free_after h (office_in a.now.trees).assignments can) in
    on_ok_implies c.add_given.result _ _ (next.step clean one.inside) (λ put. handed_over h a b d has can one
    (put h.taker.number (given_over h) c.in_ok-new.ensures free
    (step_ready table_of_assignments_2.tree (ReplacesGiven h.former.number h.ended) a b one))))))
