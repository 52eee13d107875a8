use Rattle.std.proofs.Common.{sym}
use Rattle.httparse.specs.Spans.{header_bytes}
use Rattle.cpi_http.proofs.FieldValues.{again, other_name, first_name}
use Rattle.cpi_http.proofs.fields.find.Goals as goal
use Rattle.cpi_http.proofs.fields.find.Goals.{then-is_same_text+in-Never, else-is_same_text}

pub returns-in_default : goal.returns-in_default
returns-in_default c =
    again c.args.name.now (header_bytes c.args.buf.now) c.args.fields.now c.loop-field.field-index _
    c.loop-field.found c.loop-field-test.true c.loop-field.invariant c.in_default.not-Never
    (rw c.of.ensures at (sym c.if-is_same_text.ensures))

pub loop-field-preserved : goal.loop-field-preserved
loop-field-preserved c =
    let inside = c.loop-field-test.true in
    let before = c.loop-field.invariant in
    elim c.if-is_same_text.branch [
      | then-is_same_text+in-Never w ↦
          first_name c.args.name.now (header_bytes c.args.buf.now) c.args.fields.now c.loop-field.field-index _
          c.loop-field.found c.if-is_same_text.found w.of-in-Never.result inside before w.in-Never.is
          (rw c.of.ensures at (sym w.if-is_same_text.ensures)) w.found-is w.of-in-Never.ensures
      | else-is_same_text w ↦
          rw w.found-is (other_name c.args.name.now
          (header_bytes c.args.buf.now) c.args.fields.now c.loop-field.field-index _ c.loop-field.found inside
          before
          (rw c.of.ensures at (sym w.if-is_same_text.ensures)))
    ]
