use Rattle.std.proofs.Common.{inl, inr, refl}
use Rattle.cpi_files.proofs.Answered.{if_err, if_ok}
use Rattle.cpi_files.proofs.files.job_in_files.Goals as goal

pub returns-in-Ok-clause-done : goal.returns-in-Ok-clause-done
returns-in-Ok-clause-done g c = if_ok c.job_in_store.result.0 _ _ c.job_in_store.ensures.done (λ it done. record {
  was = c.in-Ok.conn;
  shown = λ clean. (c.in-Ok.ensures.opened clean, c.in-Ok.ensures.found clean);
  last = done.0;
  done = done.1;
  left = done.2;
})

pub returns-in-Ok-clause-refused : goal.returns-in-Ok-clause-refused
returns-in-Ok-clause-refused g c =
    if_err c.job_in_store.result.0 _ _ c.job_in_store.ensures.refused (λ fault refused. inr (record {
      was = c.in-Ok.conn;
      shown = λ clean. (c.in-Ok.ensures.opened clean, c.in-Ok.ensures.found clean);
      last = refused.0;
      refused = refused.1;
      closed = refused.2.0;
      left = refused.2.1;
    }))

-- the files hold no database
pub returns-in-Err-clause-refused : goal.returns-in-Err-clause-refused
returns-in-Err-clause-refused g c = inl (
  refl,
  record {
    rest = c.in-Err.rest;
    left = c.into_files.ensures;
    error = _;
    cause = c.in-Err.ensures.cause;
    unharmed = c.in-Err.ensures.unharmed;
  },
)
