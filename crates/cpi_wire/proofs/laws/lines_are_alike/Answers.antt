use Rattle.cpi_wire.proofs.Alike.{lines_are_alike}
use Rattle.cpi_wire.proofs.laws.lines_are_alike.Goals as goal

pub returns : goal.returns
returns g c = lines_are_alike g.B.Book.state g.C.Book.state
