use Rattle.cpi_wire.proofs.Causes.{answer_caused, cause_caused}
use Rattle.cpi_wire.proofs.answers.answer_one.Goals as goal

pub returns-in-Ok-clause-caused : goal.returns-in-Ok-clause-caused
returns-in-Ok-clause-caused g c =
    let old = g.B.Book.state c.args.office.now.book in
    let new = g.B.Book.state c.answer.new.self.book in
    answer_caused old new c.args.now c.args.caller c.args.request c.in-Ok.reply
    (rw c.in-Ok.is at c.answer.ensures.serves) (rw c.in-Ok.is at c.answer.ensures.answered)

pub returns-in-Err-clause-caused : goal.returns-in-Err-clause-caused
returns-in-Err-clause-caused g c =
    let old = g.B.Book.state c.args.office.now.book in
    let new = g.B.Book.state c.answer.new.self.book in
    cause_caused old new c.args.now c.args.caller c.args.request c.in-Err.cause
    (rw c.in-Err.is at c.answer.ensures.serves) (rw c.in-Err.is at c.answer.ensures.cause)
