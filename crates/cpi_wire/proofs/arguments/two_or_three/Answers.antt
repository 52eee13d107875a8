use Rattle.cpi_wire.proofs.Counted.{third_none, third_is, third_not}
use Rattle.cpi_wire.proofs.arguments.two_or_three.Goals as goal

pub returns-then-arguments-eq2 : goal.returns-then-arguments-eq2
returns-then-arguments-eq2 c = third_none c.args.arguments.now _ c.if-arguments-eq2.true

pub returns-then-arguments-eq3 : goal.returns-then-arguments-eq3
returns-then-arguments-eq3 c = third_is c.args.arguments.now _ c.if-arguments-eq3.true

pub returns-else-arguments-eq3 : goal.returns-else-arguments-eq3
returns-else-arguments-eq3 c = third_not c.args.arguments.now c.if-arguments-eq2.false c.if-arguments-eq3.false
