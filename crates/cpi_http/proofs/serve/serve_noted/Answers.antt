use Rattle.std.proofs.Common.{refl, Err, ◌∙◌}
use Rattle.cpi_office.specs.declared.refusal.Refusal.TheVariants.{BadRequest}
use Rattle.cpi_office.specs.declared.reply.Reply.TheVariants.{Refused}
use Rattle.cpi_wire.specs.Answer.{One}
use Rattle.cpi_http.specs.Message.{setting}
use Rattle.cpi_http.specs.Served.{messages}
use Rattle.cpi_wire.proofs.Causes.{none_caused}
use Rattle.cpi_http.proofs.Serving.{sent_ok, sent_err, sent_caused, gives_malformed, are_parts, headed_ok, headed_err}
use Rattle.cpi_http.proofs.Serving.{noted_writing}
use Rattle.cpi_http.proofs.serve.serve_noted.Goals as goal

pub returns-in-Malformed-clause-ok : goal.returns-in-Malformed-clause-ok
returns-in-Malformed-clause-ok g c =
    let s = setting c.args.now c.args.zone.now c.args.desk_key in
    let never = rw c.in-Malformed.is at c.in_ok-spans.ensures.head in
    sent_ok g.B.Book.state (messages s) _ _ _ (Err 400) (One (Refused BadRequest)) _ _ _ _
    (gives_malformed s c.read_head.new.buf.items _ _ never c.in_ok-spans.ensures.bytes) (
      refl,
      refl,
    ) refl refl refl c.refuse.ensures.ok c.refuse.ensures.whole

pub returns-in-Malformed-clause-err : goal.returns-in-Malformed-clause-err
returns-in-Malformed-clause-err g c =
    let s = setting c.args.now c.args.zone.now c.args.desk_key in
    let never = rw c.in-Malformed.is at c.in_ok-spans.ensures.head in
    sent_err g.B.Book.state (messages s) _ _ _ (Err 400) (One (Refused BadRequest)) _ _
    (gives_malformed s c.read_head.new.buf.items _ _ never c.in_ok-spans.ensures.bytes) (
      refl,
      refl,
    ) refl c.refuse.ensures.err

pub returns-clause-ok : goal.returns-clause-ok
returns-clause-ok g c =
    let s = setting c.args.now c.args.zone.now c.args.desk_key in
    let said = rw c.in-Whole.is at c.in_ok-spans.ensures.head in
    headed_ok s c.read_head.new.buf.items said.0 _ _ _ _ _ _ said.1
    (are_parts s said.0 _ _ _ _ _ said.2.fields (c.of.ensures ∙ rw c.deref-4.ensures.value said.2.method)
    (c.of-path.ensures ∙ rw c.deref.ensures.value said.2.path) (rw c.deref-2.ensures.value at c.framing-size.ensures)
    (rw c.deref-3.ensures.value at c.called_of-called.ensures))
    c.in_ok-spans.ensures.bytes g.B.Book.state _ c.serve_body.result c.serve_body.ensures.ok

pub returns-clause-err : goal.returns-clause-err
returns-clause-err g c =
    let s = setting c.args.now c.args.zone.now c.args.desk_key in
    let said = rw c.in-Whole.is at c.in_ok-spans.ensures.head in
    headed_err s c.read_head.new.buf.items said.0 _ _ _ _ _ _ said.1
    (are_parts s said.0 _ _ _ _ _ said.2.fields (c.of.ensures ∙ rw c.deref-4.ensures.value said.2.method)
    (c.of-path.ensures ∙ rw c.deref.ensures.value said.2.path) (rw c.deref-2.ensures.value at c.framing-size.ensures)
    (rw c.deref-3.ensures.value at c.called_of-called.ensures))
    c.in_ok-spans.ensures.bytes g.B.Book.state _ c.serve_body.result c.serve_body.ensures.err

pub returns-in-Malformed-clause-caused : goal.returns-in-Malformed-clause-caused
returns-in-Malformed-clause-caused g c =
    sent_caused _ _ _ _ _ c.refuse.result (none_caused (g.B.Book.state c.args.office.now.book)) c.refuse.ensures.ok
    c.refuse.ensures.cause

pub returns-in-Malformed-clause-noted : goal.returns-in-Malformed-clause-noted
returns-in-Malformed-clause-noted g c =
    noted_writing _ _ c.refuse.result _ _ _ c.refuse.ensures.err c.refuse.ensures.noted
