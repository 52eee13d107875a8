use Rattle.cpi_wire.proofs.Runs.{records_are_a_run}
use Rattle.cpi_wire.proofs.laws.records_are_a_run.Goals as goal

pub returns : goal.returns
returns g c = records_are_a_run g.B.Book.state
