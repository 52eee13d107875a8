use Rattle.cpi_app.proofs.ServedRuns.{last_is_answered, visits_are_a_run}
use Rattle.cpi_app.proofs.laws.served_is_a_run.Goals as goal

pub returns-clause-run : goal.returns-clause-run
returns-clause-run g c = visits_are_a_run g.L.Listener.meets g.B.Book.state c.messages_are_a_run.ensures

pub returns-clause-last : goal.returns-clause-last
returns-clause-last g c = last_is_answered g.L.Listener.meets g.B.Book.state
