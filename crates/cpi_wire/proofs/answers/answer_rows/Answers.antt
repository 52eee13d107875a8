use Rattle.std.proofs.Common.{sym, ◌∙◌}
use Rattle.std.proofs.lemmas.List.{nil_from_length}
use Rattle.cpi_wire.proofs.Causes.{caused_more}
use Rattle.cpi_wire.proofs.Importing.{first_rows, so_far_more, rows_none, rows_whole, on_err}
use Rattle.cpi_wire.proofs.answers.answer_rows.Goals as goal

pub returns-in_err-line-clause-err : goal.returns-in_err-line-clause-err
returns-in_err-line-clause-err g c =
    on_err c.from_residual.result
    (rows_none g.B.Book.state c.args.now c.args.caller.now c.args.office.now.book c.args.rows)

pub returns-in_err-end-clause-err : goal.returns-in_err-end-clause-err
returns-in_err-end-clause-err g c =
    let answered = c.answer_import_row.ensures.row in
    on_err c.from_residual-in_err-end.result
    (first_rows _ _ _ _ _ _ _ _ _ _ _ _ c.in-Some.row answered.0 c.loop-row.invariant.0 c.in-Some.ensures.items
    answered.1)

pub loop-row-preserved : goal.loop-row-preserved
loop-row-preserved g c =
    let answered = c.in_ok-end.ensures.row in (
      so_far_more _ _ _ _ _ _ _ _ _ _ _ _ _ _ c.in-Some.row answered.0 c.loop-row.invariant.0 c.in-Some.ensures.items
          answered.1 answered.2 answered.3,
      rw c.first_cause-cause.ensures
          (caused_more _ _ _ _ _ _ _ c.loop-row.invariant.1 c.in_ok-end.ensures.caused),
    )

pub returns-clause-ok : goal.returns-clause-ok
returns-clause-ok g c =
    let none = nil_from_length _ (sym c.loop-row.rest.rest.ok.0 ∙ c.in_default.ensures.cases.0) in
    rows_whole _ _ _ _ _ _ _ _ _ _ _ c.loop-row.invariant.0 none c.in_ok-end_rows.ensures
