use Rattle.cpi_wire.proofs.Counted.{six_is, six_not}
use Rattle.cpi_wire.proofs.arguments.six.Goals as goal

pub returns-then-arguments-eq6 : goal.returns-then-arguments-eq6
returns-then-arguments-eq6 c = six_is c.args.arguments.now _ c.if-arguments-eq6.true

pub returns-else-arguments-eq6 : goal.returns-else-arguments-eq6
returns-else-arguments-eq6 c = six_not c.args.arguments.now c.if-arguments-eq6.false
