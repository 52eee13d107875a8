use Rattle.cpi_files.proofs.files.job_in_store.Goals as goal

pub returns-in-Ok-clause-done : goal.returns-in-Ok-clause-done
returns-in-Ok-clause-done g c = (_, c.in-Ok.ensures.done, c.close-closed.ensures)
