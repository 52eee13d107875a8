use Rattle.std.proofs.Common.{refl, Err}
use Rattle.std.proofs.KnownBytes.{Keeps-refl}
use Rattle.std.proofs.lemmas.Result.{err_from_is_err_and}
use Rattle.cpi_office.specs.declared.refusal.Refusal.TheVariants.{BadRequest}
use Rattle.cpi_office.specs.declared.reply.Reply.TheVariants.{Refused}
use Rattle.cpi_wire.specs.Answer.{One}
use Rattle.cpi_http.specs.Message.{asked_by}
use Rattle.cpi_http.specs.Served.{bodies}
use Rattle.cpi_wire.proofs.Causes.{none_caused}
use Rattle.cpi_http.proofs.Serving.{sent_ok, sent_err, sent_caused, gives_refused, gives_whole, said_bytes}
use Rattle.cpi_http.proofs.Serving.{gave_up_memory, noted_writing}
use Rattle.cpi_http.proofs.serve.serve_body.Goals as goal

pub returns-in-Err-clause-ok : goal.returns-in-Err-clause-ok
returns-in-Err-clause-ok g c =
    let a = c.args in
    sent_ok g.B.Book.state (bodies a.now a.zone.now a.size a.called a.path.now) _ _ _ (Err c.in-Err.status)
    (One (Refused BadRequest)) _ _ _ _
    (gives_refused a.now a.zone.now a.size a.called a.path.now c.in-Err.status _ c.in-Err.is) (
      refl,
      refl,
    ) refl refl refl c.refuse.ensures.ok c.refuse.ensures.whole

pub returns-in-Err-clause-err : goal.returns-in-Err-clause-err
returns-in-Err-clause-err g c =
    let a = c.args in
    sent_err g.B.Book.state (bodies a.now a.zone.now a.size a.called a.path.now) _ _ _ (Err c.in-Err.status)
    (One (Refused BadRequest)) _ _
    (gives_refused a.now a.zone.now a.size a.called a.path.now c.in-Err.status _ c.in-Err.is) (
      refl,
      refl,
    ) refl c.refuse.ensures.err

pub returns-clause-ok : goal.returns-clause-ok
returns-clause-ok g c =
    let a = c.args in
    let got = rw c.in-Some.is at c.in_ok-body.ensures.body in
    let gives = gives_whole a.now a.zone.now a.size a.called a.path.now c.in-Some.body.items _ _ c.in-Ok.length
    c.in-Ok.is got.0 got.1 in
    let said = rw c.deref.ensures.value at c.in_ok-response.ensures.ok in
    sent_ok g.B.Book.state (bodies a.now a.zone.now a.size a.called a.path.now) _ _ _
    (asked_by a.now a.zone.now a.called a.path.now c.in-Some.body.items) said.0 _ _ _ _
    gives said.1 (said_bytes _ _ c.in_ok-response.response said.2) said.2.0 said.2.3 c.send.ensures.ok
    c.send.ensures.whole

pub returns-clause-err : goal.returns-clause-err
returns-clause-err g c =
    let a = c.args in
    let got = rw c.in-Some.is at c.in_ok-body.ensures.body in
    let gives = gives_whole a.now a.zone.now a.size a.called a.path.now c.in-Some.body.items _ _ c.in-Ok.length
    c.in-Ok.is got.0 got.1 in
    let said = rw c.deref.ensures.value at c.in_ok-response.ensures.ok in
    sent_err g.B.Book.state (bodies a.now a.zone.now a.size a.called a.path.now) _ _ _
    (asked_by a.now a.zone.now a.called a.path.now c.in-Some.body.items) said.0 _ _
    gives said.1 (said_bytes _ _ c.in_ok-response.response said.2) c.send.ensures.err

pub returns-in_err-response-clause-err : goal.returns-in_err-response-clause-err
returns-in_err-response-clause-err g c =
    let a = c.args in
    let got = rw c.in-Some.is at c.in_ok-body.ensures.body in
    let gives = gives_whole a.now a.zone.now a.size a.called a.path.now c.in-Some.body.items _ _ c.in-Ok.length
    c.in-Ok.is got.0 got.1 in
    let begun = rw c.deref.ensures.value at c.in_err-response.ensures.err in
    let p = err_from_is_err_and c.from_residual-in_err-response.result c.from_residual-in_err-response.ensures.1 in
    rw (p.1, p.2) (gave_up_memory g.B.Book.state (bodies a.now a.zone.now a.size a.called a.path.now) _ _ _
    (asked_by a.now a.zone.now a.called a.path.now c.in-Some.body.items) gives begun (Keeps-refl _))

pub returns-in-Err-clause-caused : goal.returns-in-Err-clause-caused
returns-in-Err-clause-caused g c =
    sent_caused _ _ _ _ _ c.refuse.result (none_caused (g.B.Book.state c.args.office.now.book)) c.refuse.ensures.ok
    c.refuse.ensures.cause

pub returns-in-Err-clause-noted : goal.returns-in-Err-clause-noted
returns-in-Err-clause-noted g c =
    noted_writing _ _ c.refuse.result _ _ _ c.refuse.ensures.err c.refuse.ensures.noted

pub returns-clause-caused : goal.returns-clause-caused
returns-clause-caused g c =
    sent_caused _ _ _ _ _ c.send.result c.in_ok-response.ensures.caused c.send.ensures.ok c.send.ensures.cause

pub returns-clause-noted : goal.returns-clause-noted
returns-clause-noted g c =
    noted_writing _ _ c.send.result _ _ _ c.send.ensures.err c.send.ensures.noted
