use Rattle.std.proofs.Common.{refl}
use Rattle.std.proofs.lemmas.Result.{IfOk-weaker}
use Rattle.cpi_wire.specs.Answer.{Rows}
use Rattle.cpi_wire.proofs.Causes.{none_caused}
use Rattle.cpi_wire.proofs.Importing.{one_begun, on_err}
use Rattle.cpi_http.proofs.Carrying.{bad_carried, one_carried, said_caused}
use Rattle.cpi_http.proofs.responses.respond.Goals as goal

pub returns-in-Bad-clause-ok : goal.returns-in-Bad-clause-ok
returns-in-Bad-clause-ok g c =
    rw c.in-Bad.is (IfOk-weaker c.refusal.result _ _
    (λ response says. bad_carried g.B.Book.state c.args.office.now.book response says) c.refusal.ensures.says)

pub returns-in-Bad-clause-caused : goal.returns-in-Bad-clause-caused
returns-in-Bad-clause-caused g c =
    said_caused _ _ _ _ _ c.refusal.result (none_caused (g.B.Book.state c.args.office.now.book)) c.refusal.ensures.says
    c.refusal.ensures.cause

pub returns-in-One-clause-ok : goal.returns-in-One-clause-ok
returns-in-One-clause-ok g c =
    let one = c.in-One in
    let answered = c.answer_one-answered in
    rw one.is (IfOk-weaker c.reply_response.result _ _
    (λ response says. one_carried g.B.Book.state one.now one.caller one.request answered.result.reply
    c.args.office.now.book answered.new.office.book response answered.ensures.serves says)
    (rw c.form_asked-form.ensures at c.reply_response.ensures.says))

pub returns-in-One-clause-caused : goal.returns-in-One-clause-caused
returns-in-One-clause-caused g c =
    said_caused _ _ _ _ _ c.reply_response.result c.answer_one-answered.ensures.caused c.reply_response.ensures.says
    c.reply_response.ensures.cause

pub returns-in-One-clause-err : goal.returns-in-One-clause-err
returns-in-One-clause-err g c =
    let one = c.in-One in
    let answered = c.answer_one-answered in
    rw one.is (on_err c.reply_response.result
    (one_begun g.B.Book.state one.now one.caller c.args.office.now.book answered.new.office.book
    one.request answered.result.reply answered.ensures.serves))

pub returns-in_ok-line-in-Import-clause-ok : goal.returns-in_ok-line-in-Import-clause-ok
returns-in_ok-line-in-Import-clause-ok g c =
    let answered = c.in_ok-line-in-Import.ensures.ok in
    rw c.in-Import.is (Rows answered.0, answered.1, (refl, refl, answered.2, answered.3))
