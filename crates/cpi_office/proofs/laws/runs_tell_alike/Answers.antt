use Rattle.cpi_office.proofs.NonInterferenceOfRuns.{runs_tell_alike}
use Rattle.cpi_office.proofs.laws.runs_tell_alike.Goals as goal

pub returns : goal.returns
returns g c = runs_tell_alike g.B.Book.state g.C.Book.state
