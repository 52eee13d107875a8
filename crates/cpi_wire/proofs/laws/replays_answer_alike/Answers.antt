use Rattle.cpi_wire.proofs.OwnAnswers.{replays_answer_alike}
use Rattle.cpi_wire.proofs.laws.replays_answer_alike.Goals as goal

pub returns : goal.returns
returns g c = replays_answer_alike g.B.Book.state g.C.Book.state
