use Rattle.cpi_wire.proofs.Asked.{ask_short, ask_parts}
use Rattle.cpi_wire.proofs.record.request_of_record.Goals as goal

pub returns-then-fields-lt3 : goal.returns-then-fields-lt3
returns-then-fields-lt3 c = ask_short c.args.zone.now c.args.fields.now c.if-fields-lt3.true

pub returns-in-Some : goal.returns-in-Some
returns-in-Some c = ask_parts c.args.zone.now c.args.fields.now _ _ c.if-fields-lt3.false
    (rw c.in-Some.is at c.in_ok-ask.ensures)

pub returns-in-None : goal.returns-in-None
returns-in-None c = ask_parts c.args.zone.now c.args.fields.now _ _ c.if-fields-lt3.false
    (rw c.in-None.is at c.in_ok-ask.ensures)
