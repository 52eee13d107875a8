use Rattle.cpi_app.proofs.replay.replay_over_office.Goals as goal

pub returns-clause-ok : goal.returns-clause-ok
returns-clause-ok g c = c.in_ok-replay_noted.ensures.ok.answered
