use Rattle.std.proofs.Common.{◌≡◌, sym, Some}
use Rattle.csv.specs.Records.{fields_of}
use Rattle.cpi_wire.specs.PlanRows.{spelled_plan_row}
use Rattle.cpi_wire.proofs.plan_body.add_record.Goals as goal

pub returns : goal.returns
returns c =
    let is : spelled_plan_row (fields_of c.args.row.now) ≡ Some c.in-Some.part =
    sym (rw (c.in-Some.is, c.deref.ensures.value, c.in_ok-fields.ensures) at c.in_ok-part.ensures) in
    (c.in-Some.part, is, c.in_ok-add.ensures)
