use Rattle.std.proofs.Common.{sym, ◌∙◌}
use Rattle.cpi_wire.proofs.Counted.{confirm_four, confirm_five, confirm_other, confirm_not}
use Rattle.cpi_wire.proofs.arguments.four_and_confirm.Goals.{else-arguments-eq5-via-then-arguments-eq5+else-is_confirm}
use Rattle.cpi_wire.proofs.arguments.four_and_confirm.Goals.{else-arguments-eq5-via-else-arguments-eq5}
use Rattle.cpi_wire.proofs.arguments.four_and_confirm.Goals as goal

pub returns-then-arguments-eq4 : goal.returns-then-arguments-eq4
returns-then-arguments-eq4 c = confirm_four c.args.arguments.now _ c.if-arguments-eq4.true

pub returns-then-is_confirm : goal.returns-then-is_confirm
returns-then-is_confirm c = confirm_five c.args.arguments.now _ c.if-arguments-eq5.true
    (sym c.is_confirm.ensures ∙ c.if-is_confirm.true)

pub returns-else-arguments-eq5 : goal.returns-else-arguments-eq5
returns-else-arguments-eq5 c = elim c.else-arguments-eq5.branch [
  | else-arguments-eq5-via-then-arguments-eq5+else-is_confirm w ↦ confirm_other c.args.arguments.now _
      w.if-arguments-eq5.true (sym w.is_confirm.ensures ∙ w.if-is_confirm.false)
  | else-arguments-eq5-via-else-arguments-eq5 w ↦ confirm_not c.args.arguments.now c.if-arguments-eq4.false
      w.if-arguments-eq5.false
]
