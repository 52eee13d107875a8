use Rattle.cpi_wire.proofs.Printed.{lines_are_printed}
use Rattle.cpi_wire.proofs.laws.lines_are_printed.Goals as goal

pub returns : goal.returns
returns g c = lines_are_printed g.B.Book.state
