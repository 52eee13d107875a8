use Rattle.std.proofs.Common.{sym, ap, ◌∙◌}
use Rattle.std.proofs.lemmas.Bool.{false≢true}
use Rattle.cpi_office.specs.Authorization.{is_turned_away}
use Rattle.cpi_office.proofs.Failures.{plan_judges, frozen_judges, handed_judges}
use Rattle.cpi_office.specs.Assigning.{assigned_in}
use Rattle.cpi_office.specs.Replacing.{planned_in, scheduled_in, body_judged}
use Rattle.cpi_release.specs.FrozenMonths.{frozen_months}
use Rattle.cpi_store.specs.Sound.{IsSound}
use Rattle.cpi_office.proofs.Calls.{answers_where}
use Rattle.cpi_office.proofs.callers.serve_desk.Goals as goal

pub returns-in-PutPlan-clause-serves : goal.returns-in-PutPlan-clause-serves
returns-in-PutPlan-clause-serves g c =
    let o = (g.B.Book.state c.args.book.now).held in
    rw c.in-PutPlan.is
    (answers_where (IsSound o) (g.B.Book.state c.args.book.now) (g.B.Book.state c.put_plan.new.book) c.put_plan.result
    (planned_in c.in-PutPlan.year c.in-PutPlan.body o) c.put_plan.ensures)

pub returns-in-PutPlan-clause-turns : goal.returns-in-PutPlan-clause-turns
returns-in-PutPlan-clause-turns g c =
    let o = (g.B.Book.state c.args.book.now).held in
    let told = (plan_judges (frozen_months o.releases) (body_judged c.in-PutPlan.year c.in-PutPlan.body o)).1 in
    rw c.in-PutPlan.is
    (record {
      keyless = λ _ turned. absurd (false≢true (sym told ∙ turned));
      keyed = λ _ turned. absurd (false≢true (sym told ∙ turned));
      unavailable = λ not_mine _. absurd (false≢true (sym told ∙ ap is_turned_away not_mine));
    })

pub returns-in-PutCalendar-clause-serves : goal.returns-in-PutCalendar-clause-serves
returns-in-PutCalendar-clause-serves g c =
    let o = (g.B.Book.state c.args.book.now).held in
    rw c.in-PutCalendar.is
    (answers_where (IsSound o) (g.B.Book.state c.args.book.now)
    (g.B.Book.state c.put_calendar.new.book) c.put_calendar.result
    (scheduled_in c.in-PutCalendar.row o) c.put_calendar.ensures)

pub returns-in-Assign-clause-serves : goal.returns-in-Assign-clause-serves
returns-in-Assign-clause-serves g c =
    let o = (g.B.Book.state c.args.book.now).held in
    rw c.in-Assign.is
    (answers_where (IsSound o) (g.B.Book.state c.args.book.now) (g.B.Book.state c.assign.new.book) c.assign.result
    (assigned_in c.in-Assign.collector c.in-Assign.new_assignment o) c.assign.ensures)

pub returns-in-HandOver-clause-turns : goal.returns-in-HandOver-clause-turns
returns-in-HandOver-clause-turns g c =
    let told = (handed_judges c.in-HandOver.what (g.B.Book.state c.args.book.now).held).1 in
    rw c.in-HandOver.is
    (record {
      keyless = λ _ turned. absurd (false≢true (sym told ∙ turned));
      keyed = λ _ turned. absurd (false≢true (sym told ∙ turned));
      unavailable = λ not_mine _. absurd (false≢true (sym told ∙ ap is_turned_away not_mine));
    })

pub returns-in-Freeze-clause-turns : goal.returns-in-Freeze-clause-turns
returns-in-Freeze-clause-turns g c =
    let told = (frozen_judges c.args.now c.in-Freeze.month c.in-Freeze.carry (g.B.Book.state c.args.book.now).held).1 in
    rw c.in-Freeze.is
    (record {
      keyless = λ _ turned. absurd (false≢true (sym told ∙ turned));
      keyed = λ _ turned. absurd (false≢true (sym told ∙ turned));
      unavailable = λ not_mine _. absurd (false≢true (sym told ∙ ap is_turned_away not_mine));
    })
