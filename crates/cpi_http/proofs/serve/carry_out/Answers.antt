use Rattle.std.proofs.lemmas.Result.{IfOk-weaker}
use Rattle.cpi_wire.proofs.Importing.{none_begun, on_err}
use Rattle.cpi_wire.proofs.Causes.{none_caused}
use Rattle.cpi_http.proofs.Carrying.{refused_carried, said_caused}
use Rattle.cpi_http.proofs.serve.carry_out.Goals as goal

pub returns-in_err-ask-clause-err : goal.returns-in_err-ask-clause-err
returns-in_err-ask-clause-err g c =
    on_err c.from_residual.result (none_begun g.B.Book.state c.args.office.now.book _)

pub returns-in-Err-clause-ok : goal.returns-in-Err-clause-ok
returns-in-Err-clause-ok g c =
    let is = rw c.in-Err.is at c.in_ok-ask.ensures in
    rw (← is) (IfOk-weaker c.refusal.result _ _
    (λ response says. refused_carried g.B.Book.state c.in-Err.status c.args.office.now.book response says)
    c.refusal.ensures.says)

pub returns-in-Err-clause-caused : goal.returns-in-Err-clause-caused
returns-in-Err-clause-caused g c =
    said_caused _ _ _ _ _ c.refusal.result (none_caused (g.B.Book.state c.args.office.now.book)) c.refusal.ensures.says
    c.refusal.ensures.cause
