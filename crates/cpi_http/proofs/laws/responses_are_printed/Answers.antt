use Rattle.cpi_http.proofs.Alike.{responses_are_printed}
use Rattle.cpi_http.proofs.laws.responses_are_printed.Goals as goal

pub returns : goal.returns
returns g c = responses_are_printed g.B.Book.state
