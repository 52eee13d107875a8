use Rattle.cpi_wire.proofs.Counted.{two_is, two_not}
use Rattle.cpi_wire.proofs.arguments.two.Goals as goal

pub returns-then-arguments-eq2 : goal.returns-then-arguments-eq2
returns-then-arguments-eq2 c = two_is c.args.arguments.now _ c.if-arguments-eq2.true

pub returns-else-arguments-eq2 : goal.returns-else-arguments-eq2
returns-else-arguments-eq2 c = two_not c.args.arguments.now c.if-arguments-eq2.false
