use Rattle.cpi_wire.proofs.Asked.{row_of, row_none}
use Rattle.cpi_wire.proofs.import.row_request.Goals as goal

pub returns-in-Some : goal.returns-in-Some
returns-in-Some c =
    let p = rw c.in-Some.is at c.split_first.ensures.cases in
    rw (
      ← row_of c.args.zone.now c.args.fields.now c.in-Some.word.now c.in-Some.arguments.now p.0,
      ← c.word_of.ensures,
    ) c.request_of.ensures

pub returns-in-None : goal.returns-in-None
returns-in-None c = row_none c.args.zone.now c.args.fields.now (rw c.in-None.is at c.split_first.ensures.cases)
