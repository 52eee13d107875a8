use Rattle.cpi_wire.proofs.Counted.{five_is, five_not}
use Rattle.cpi_wire.proofs.arguments.five.Goals as goal

pub returns-then-arguments-eq5 : goal.returns-then-arguments-eq5
returns-then-arguments-eq5 c = five_is c.args.arguments.now _ c.if-arguments-eq5.true

pub returns-else-arguments-eq5 : goal.returns-else-arguments-eq5
returns-else-arguments-eq5 c = five_not c.args.arguments.now c.if-arguments-eq5.false
