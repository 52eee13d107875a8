use Rattle.cpi_http.proofs.Alike.{responses_are_alike}
use Rattle.cpi_http.proofs.laws.responses_are_alike.Goals as goal

pub returns : goal.returns
returns g c = responses_are_alike g.B.Book.state g.C.Book.state
