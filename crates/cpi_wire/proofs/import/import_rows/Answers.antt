use Rattle.std.proofs.Common.{◌≡◌, rules, refl, ℕ, List, [], ◌∷◌, ◌++◌, ◌<◌, ◌≤◌, length, map, Some, None, arith}
use Rattle.std.proofs.Common.{nat_lt, true, false, length-append}
use Rattle.std.proofs.lemmas.List.{map-append}
use Rattle.csv.specs.Records.{fields_of}
use Rattle.cpi_codes.specs.Zone.{ZoneRule}
use Rattle.cpi_wire.specs.Input.{Record, AreFirst, records_of}
use Rattle.cpi_wire.specs.Import.{row_asks, rows_of_body}
use Rattle.cpi_wire.specs.declared.limits.TheConstants.{MOST_ROWS}
use Rattle.cpi_wire.proofs.RowLimits.{within_limit, past_limit}
use Rattle.cpi_wire.proofs.Reading.{at_front}
use Rattle.cpi_wire.proofs.import.import_rows.Goals as goal

few_rows : (zone : ZoneRule) (body : List ℕ) (given : List Record) → given ≡ records_of body
    → length given ≤ MOST_ROWS → Some (map (row_asks zone) given) ≡ rows_of_body zone body
unfolding rows_of_body
few_rows zone body given e h =
    let t : nat_lt MOST_ROWS (length (records_of body)) ≡ false = rw (← e) (within_limit (length given) h) in
    rw (t, e) refl

many_rows : (zone : ZoneRule) (body : List ℕ) (given : List Record) → AreFirst given body → MOST_ROWS < length given →
    None ≡ rows_of_body zone body
unfolding rows_of_body
many_rows zone body given first h =
    let t : nat_lt MOST_ROWS (length (records_of body)) ≡ true =
    past_limit _ (rw (first.1, length-append) (omega arith)) in
    rw t refl

pub returns-then-not-branch : goal.returns-then-not-branch
returns-then-not-branch c =
    let inv = c.loop.invariant in
    let none : c.in_ok-next_row.field-0 ≡ false = search rules in
    let all = (rw none at c.in_ok-next_row.ensures) (Some c.args.body.now) inv.0 inv.1 in
    let count = inv.3 in rw inv.2 (few_rows c.args.zone.now c.args.body.now inv.0 all (omega arith))

pub loop-preserved : goal.loop-preserved
loop-preserved c =
    let inv = c.loop.invariant in
    let f = fields_of c.next_row.new.row in
    let one : c.in_ok-next_row.field-0 ≡ true = search rules in (
      inv.0 ++ f ∷ [],
      (rw one at c.in_ok-next_row.ensures) (Some c.args.body.now) inv.0 inv.1,
      rw (
        c.in_ok-push.ensures.items,
        inv.2,
        c.in_ok-record_request.ensures,
        map-append (row_asks c.args.zone.now) inv.0 (f ∷ []),
      ) refl,
      let count = inv.3 in rw length-append (omega arith),
    )

pub returns-then-branch : goal.returns-then-branch
returns-then-branch c =
    let inv = c.loop.invariant in
    let f = fields_of c.next_row-2.new.row in
    let one : c.in_ok-next_row-2.field-0 ≡ true = search rules in
    let next = (rw one at c.in_ok-next_row-2.ensures) (Some c.args.body.now) inv.0 inv.1 in
    let first = at_front _ (Some c.args.body.now) (inv.0 ++ f ∷ []) c.next_row-2.new.reader next in
    let count = inv.3 in many_rows c.args.zone.now c.args.body.now (inv.0 ++ f ∷ []) first
    (rw length-append (omega arith))

pub returns : goal.returns
returns c =
    let inv = c.loop.invariant in
    let none : c.in_ok-next_row-2.field-0 ≡ false = search rules in
    let all = (rw none at c.in_ok-next_row-2.ensures) (Some c.args.body.now) inv.0 inv.1 in
    let count = inv.3 in rw inv.2 (few_rows c.args.zone.now c.args.body.now inv.0 all (omega arith))
