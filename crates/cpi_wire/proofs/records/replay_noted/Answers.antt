use Rattle.cpi_wire.proofs.records.replay_noted.Goals as goal

pub returns-clause-ok : goal.returns-clause-ok
returns-clause-ok g c = c.answer_records.ensures.ok (g.R.Read.remaining c.args.reader)
    (rw c.new.ensures.inner at c.record_reader-records.ensures)

pub returns-clause-err : goal.returns-clause-err
returns-clause-err g c = c.answer_records.ensures.err (g.R.Read.remaining c.args.reader)
    (rw c.new.ensures.inner at c.record_reader-records.ensures)
