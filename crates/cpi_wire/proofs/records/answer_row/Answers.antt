use Rattle.cpi_wire.proofs.Importing.{none_begun, on_err}
use Rattle.cpi_wire.proofs.records.answer_row.Goals as goal

pub returns-in_err-fields-clause-err : goal.returns-in_err-fields-clause-err
returns-in_err-fields-clause-err g c =
    on_err c.from_residual.result (none_begun g.B.Book.state c.args.office.now.book _)

pub returns-in_err-ask-clause-err : goal.returns-in_err-ask-clause-err
returns-in_err-ask-clause-err g c =
    on_err c.from_residual-in_err-ask.result (none_begun g.B.Book.state c.args.office.now.book _)
