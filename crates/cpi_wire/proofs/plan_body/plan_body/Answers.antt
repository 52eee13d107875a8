use Rattle.std.proofs.Common.{◌≡◌, rules, [], ◌∷◌, ◌++◌, Some, true, false, arith, length-append}
use Rattle.csv.specs.Records.{fields_of}
use Rattle.cpi_wire.proofs.PlanRead.{rows_more, body_whole, body_long, body_bad}
use Rattle.cpi_wire.proofs.Reading.{at_front}
use Rattle.cpi_wire.proofs.plan_body.plan_body.Goals as goal

pub returns-then-not-branch : goal.returns-then-not-branch
returns-then-not-branch c =
    let inv = c.loop.invariant in
    let none : c.in_ok-next_row.field-0 ≡ false = search rules in
    let all = (rw none at c.in_ok-next_row.ensures) (Some c.args.text.now) inv.0 inv.2 in
    let count = inv.5 in rw inv.4 (body_whole c.args.text.now inv.0 inv.1 all (omega arith) inv.3)

pub returns-then-not-branch-2 : goal.returns-then-not-branch-2
returns-then-not-branch-2 c =
    let inv = c.loop.invariant in
    let f = fields_of c.next_row.new.row in
    let one : c.in_ok-next_row.field-0 ≡ true = search rules in
    let next = (rw one at c.in_ok-next_row.ensures) (Some c.args.text.now) inv.0 inv.2 in
    let first = at_front _ (Some c.args.text.now) (inv.0 ++ f ∷ []) c.next_row.new.reader next in
    let bad : c.in_ok-add_record.field-0 ≡ false = search rules in
    body_bad c.args.text.now inv.0 inv.1 f first inv.3 (rw bad at c.in_ok-add_record.ensures)

pub loop-preserved : goal.loop-preserved
loop-preserved c =
    let inv = c.loop.invariant in
    let f = fields_of c.next_row.new.row in
    let one : c.in_ok-next_row.field-0 ≡ true = search rules in
    let good : c.in_ok-add_record.field-0 ≡ true = search rules in
    let added = rw good at c.in_ok-add_record.ensures in (
      inv.0 ++ f ∷ [],
      inv.1 ++ added.0 ∷ [],
      (rw one at c.in_ok-next_row.ensures) (Some c.args.text.now) inv.0 inv.2,
      rows_more inv.0 inv.1 f added.0 inv.3 added.1,
      added.2 inv.1 inv.4,
      let count = inv.5 in rw length-append (omega arith),
    )

pub returns-then-branch : goal.returns-then-branch
returns-then-branch c =
    let inv = c.loop.invariant in
    let f = fields_of c.next_row-2.new.row in
    let one : c.in_ok-next_row-2.field-0 ≡ true = search rules in
    let next = (rw one at c.in_ok-next_row-2.ensures) (Some c.args.text.now) inv.0 inv.2 in
    let first = at_front _ (Some c.args.text.now) (inv.0 ++ f ∷ []) c.next_row-2.new.reader next in
    let count = inv.5 in body_long c.args.text.now (inv.0 ++ f ∷ []) first (rw length-append (omega arith))

pub returns : goal.returns
returns c =
    let inv = c.loop.invariant in
    let none : c.in_ok-next_row-2.field-0 ≡ false = search rules in
    let all = (rw none at c.in_ok-next_row-2.ensures) (Some c.args.text.now) inv.0 inv.2 in
    let count = inv.5 in rw inv.4 (body_whole c.args.text.now inv.0 inv.1 all (omega arith) inv.3)
