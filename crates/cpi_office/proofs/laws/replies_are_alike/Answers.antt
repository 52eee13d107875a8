use Rattle.cpi_office.proofs.NonInterferenceBetweenOffices.{replies_are_alike}
use Rattle.cpi_office.proofs.laws.replies_are_alike.Goals as goal

pub returns : goal.returns
returns g c = replies_are_alike g.B.Book.state g.C.Book.state
