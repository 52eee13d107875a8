use Rattle.cpi_app.proofs.ServedRuns.{servings_are_alike}
use Rattle.cpi_app.proofs.laws.servings_are_alike.Goals as goal

pub returns : goal.returns
returns g c =
    servings_are_alike g.B.Book.state g.C.Book.state c.one_message.ensures c.responses_are_alike.ensures
