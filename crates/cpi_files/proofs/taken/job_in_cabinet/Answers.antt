use Rattle.std.proofs.Common.{inr}
use Rattle.cpi_files.proofs.Answered.{if_err, if_ok}
use Rattle.cpi_files.proofs.taken.job_in_cabinet.Goals as goal

pub returns-clause-done : goal.returns-clause-done
returns-clause-done g c = if_ok c.job_in_files-outcome.result.0 _ _ c.job_in_files-outcome.ensures.done (λ it done. (
  c.in_ok-files.files,
  c.job_in_files-outcome.result.1,
  c.take.new.self,
  c.in_ok-files.ensures.given,
  done,
  c.put_back.ensures,
))

pub returns-clause-refused : goal.returns-clause-refused
returns-clause-refused g c =
    if_err c.job_in_files-outcome.result.0 _ _ c.job_in_files-outcome.ensures.refused (λ fault refused. inr (
      c.in_ok-files.files,
      c.job_in_files-outcome.result.1,
      c.take.new.self,
      c.in_ok-files.ensures.given,
      refused,
      c.put_back.ensures,
    ))
