use Rattle.std.proofs.Common.{Some, Ok, ap, refl, sym, ◌∙◌}
use Rattle.cpi_survey.specs.Decision.{entry_decision}
use Rattle.cpi_store.specs.Office.{public_part, own_part}
use Rattle.cpi_office.specs.Authentication.{collector_view}
use Rattle.cpi_office.specs.declared.request.Request.TheVariants as request
use Rattle.cpi_office.proofs.Failures.{decision_own, work_own, table_own}
use Rattle.cpi_release.specs.PublishedTables.{asked_table}
use Rattle.cpi_office.proofs.Authorization.{told_itself, turned_is}
use Rattle.cpi_office.proofs.answers.answer_collector.Goals.{in-Items, in-Tables, in-Table, in-Submit, in-Work, in-Quotes}
use Rattle.cpi_office.proofs.answers.answer_collector.Goals.{in_default}
use Rattle.cpi_office.proofs.answers.answer_collector.Goals as goal

pub returns-clause-turns : goal.returns-clause-turns
returns-clause-turns g c = λ turned.
    let o = (g.S.Sight.state c.args.sight.now).held in
    let v = collector_view c.args.present o (Some c.args.bearer) in
    let own = own_part c.args.bearer.number o in
    let now = c.args.present in
    let r = c.args.request in
    elim c.match-request.branch [
      | in-Items w ↦ told_itself now r request.Items v own w.in-Items.is refl turned
      | in-Tables w ↦ told_itself now r request.Tables v own w.in-Tables.is refl turned
      | in-Table w ↦ told_itself now r (request.Table w.in-Table.month w.in-Table.form w.in-Table.edition) v own
          w.in-Table.is (table_own w.in-Table.form w.in-Table.month
          (asked_table w.in-Table.month w.in-Table.edition v.tables)).1 turned
      | in-Submit w ↦ told_itself now r (request.Submit w.in-Submit.entry) v own w.in-Submit.is
          (decision_own (entry_decision now w.in-Submit.entry (public_part o) own)).1 turned
      | in-Work w ↦ told_itself now r (request.Work w.in-Work.month) v own w.in-Work.is
          (work_own w.in-Work.month (public_part o) own).1 turned
      | in-Quotes w ↦ told_itself now r (request.Quotes w.in-Quotes.first w.in-Quotes.last) v own w.in-Quotes.is refl
          turned
      | in_default w ↦ w.result-is ∙ ap Ok (sym (turned_is now r v own turned))
    ]
