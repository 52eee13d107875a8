use Rattle.cpi_wire.proofs.Counted.{four_is, four_not}
use Rattle.cpi_wire.proofs.arguments.four.Goals as goal

pub returns-then-arguments-eq4 : goal.returns-then-arguments-eq4
returns-then-arguments-eq4 c = four_is c.args.arguments.now _ c.if-arguments-eq4.true

pub returns-else-arguments-eq4 : goal.returns-else-arguments-eq4
returns-else-arguments-eq4 c = four_not c.args.arguments.now c.if-arguments-eq4.false
