use Rattle.cpi_wire.proofs.Counted.{none_is, none_not}
use Rattle.cpi_wire.proofs.arguments.no_more.Goals as goal

pub returns-then-arguments-eq0 : goal.returns-then-arguments-eq0
returns-then-arguments-eq0 c = none_is c.args.arguments.now c.if-arguments-eq0.true

pub returns-else-arguments-eq0 : goal.returns-else-arguments-eq0
returns-else-arguments-eq0 c = none_not c.args.arguments.now c.if-arguments-eq0.false
