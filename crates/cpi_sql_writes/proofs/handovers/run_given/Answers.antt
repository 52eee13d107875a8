use Rattle.cpi_sql_writes.proofs.handovers.run_given.Goals as goal

pub returns-clause-ran : goal.returns-clause-ran
returns-clause-ran g c = rw c.parameters-row.ensures at c.run_inside.ensures.ran
