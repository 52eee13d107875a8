use Rattle.cpi_wire.proofs.Importing.{bad_line, one_line, one_begun, line_of_rows, on_err}
use Rattle.cpi_wire.proofs.answers.answer_line.Goals as goal

pub returns-in-Bad-clause-ok : goal.returns-in-Bad-clause-ok
returns-in-Bad-clause-ok g c =
    let line = c.line_with_cause in
    rw c.in-Bad.is (bad_line g.B.Book.state c.args.office.now.book line.result line.ensures.line line.ensures.failed)

pub returns-in-One-clause-ok : goal.returns-in-One-clause-ok
returns-in-One-clause-ok g c =
    let one = c.in-One in
    let answered = c.answer_one-answered in
    let line = c.line_with_cause-in-One in
    rw one.is (one_line g.B.Book.state one.now one.caller c.args.office.now.book answered.new.office.book one.request
    answered.result.reply line.result answered.ensures.serves line.ensures.line line.ensures.failed)

pub returns-in-One-clause-err : goal.returns-in-One-clause-err
returns-in-One-clause-err g c =
    let one = c.in-One in
    let answered = c.answer_one-answered in
    rw one.is (on_err c.line_with_cause-in-One.result
    (one_begun g.B.Book.state one.now one.caller c.args.office.now.book answered.new.office.book
    one.request answered.result.reply answered.ensures.serves))

pub returns-in_ok-line-in-Import-clause-ok : goal.returns-in_ok-line-in-Import-clause-ok
returns-in_ok-line-in-Import-clause-ok g c =
    let import = c.in-Import in
    let answered = c.answer_rows in
    let whole = c.in_ok-line-in-Import.ensures.ok in
    rw import.is (line_of_rows g.B.Book.state import.now import.caller c.args.office.now.book answered.new.office.book
    import.rows _ _ whole)
