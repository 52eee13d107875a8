use Rattle.cpi_wire.proofs.records.replay.Goals as goal

pub returns-clause-ok : goal.returns-clause-ok
returns-clause-ok g c = c.in_ok-replay_noted.ensures.ok.answered
