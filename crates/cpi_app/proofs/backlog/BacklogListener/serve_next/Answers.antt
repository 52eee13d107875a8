use Rattle.std.proofs.Common.{refl, inr, List, Some}
use Rattle.std.proofs.lemmas.Option.{slice_get_read}
use Rattle.cpi_app.specs.Connection.{connection}
use Rattle.cpi_app.specs.declared.backlog.Queued.{Queued}
use Rattle.cpi_app.proofs.backlog.BacklogListener.serve_next.Goals as goal

-- it can't be accepted
pub returns-then-not-next : goal.returns-then-not-next
returns-then-not-next g c =
    let next = c.in-Some.next.now in
    let item = c.in-Some.ensures.item in
    let found = slice_get_read c.args.self.now.queued.items _ _ next refl item.3.0 item.1 in
    (inr (next, record { found = found; stored = refl {A = List Queued}; taken = refl }, c.if-not-next.true), refl)

-- there is no moment
pub returns-in_default-moment : goal.returns-in_default-moment
returns-in_default-moment g c =
    let next = c.in-Some.next.now in
    let item = c.in-Some.ensures.item in
    let found = slice_get_read c.args.self.now.queued.items _ _ next refl item.3.0 item.1 in
    let stored = refl {A = List Queued} in
    ((next, record { found = found; stored = stored; taken = refl }, c.if-not-next.false, c.in_default-moment.is), refl)

-- it is served
pub returns : goal.returns
returns g c =
    let next = c.in-Some.next.now in
    let item = c.in-Some.ensures.item in
    let found = slice_get_read c.args.self.now.queued.items _ _ next refl item.3.0 item.1 in
    let now : Queued = record next { written = c.serve-outcome.new.writer } in (
      connection c.in-Some-moment.now (Some next.sent.items) (Some next.written.items) (Some now.written.items),
      (
        next,
        now,
        record { found = found; stored = refl {A = List Queued}; taken = refl },
        record {
          is_open = c.if-not-next.false;
          moment = c.in-Some-moment.is;
          sent = refl;
          written = refl;
          writing = refl;
          others = refl;
        },
      ),
      rw (← c.as_slice-sent.ensures.value) c.serve-outcome.ensures.served,
    )
