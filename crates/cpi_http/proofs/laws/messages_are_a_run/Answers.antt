use Rattle.cpi_http.proofs.Alike.{messages_are_a_run}
use Rattle.cpi_http.proofs.laws.messages_are_a_run.Goals as goal

pub returns : goal.returns
returns g c = messages_are_a_run g.B.Book.state
