use Rattle.cpi_wire.proofs.Counted.{one_is, one_not}
use Rattle.cpi_wire.proofs.arguments.one.Goals as goal

pub returns-then-arguments-eq1 : goal.returns-then-arguments-eq1
returns-then-arguments-eq1 c = one_is c.args.arguments.now _ c.if-arguments-eq1.true

pub returns-else-arguments-eq1 : goal.returns-else-arguments-eq1
returns-else-arguments-eq1 c = one_not c.args.arguments.now c.if-arguments-eq1.false
