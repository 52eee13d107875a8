use Rattle.std.proofs.Common.{refl}
use Rattle.cpi_sql.proofs.Calls.{puts, put_fails, rows_kept, rows_put}
use Rattle.cpi_sql.proofs.Followed.{kept_sound, survey_sound, tables_of}
use Rattle.cpi_sql.proofs.sql_book.SqlBookBook.put_quote.Goals as goal

pub returns : goal.returns
returns g c = rw (← c.self.view_is) (record {
  writes = puts _ _ _ _ _ c.put_quote-put.ensures.written (tables_of _ _ c.self.invariant) (λ _. tt)
      c.in_ok-stored.ensures.counted c.put_quote-put.ensures.open c.in_ok-stored.ensures.settled;
  rows = rows_put _ _ _ _ _ c.put_quote-put.ensures.written (tables_of _ _ c.self.invariant) (λ _. tt)
      c.in_ok-stored.ensures.counted;
})

pub returns-in_err-stored : goal.returns-in_err-stored
returns-in_err-stored g c = rw (← c.self.view_is) (record {
  writes = put_fails _ _ _ _ _ c.put_quote-put.ensures.written (tables_of _ _ c.self.invariant) (λ _. tt)
      _ c.from_residual.ensures.0 c.in_err-stored.ensures.counted;
  rows = rows_kept _ _ _ _ _ c.put_quote-put.ensures.written (tables_of _ _ c.self.invariant) (λ _. tt) _
      c.from_residual.ensures.0 c.in_err-stored.ensures.counted;
})

pub invariant_of-self-2 : goal.invariant_of-self-2
invariant_of-self-2 g c =
    rw c.in_ok-stored.ensures.cleared (survey_sound _ _ _ c.put_quote-put.ensures.written
    c.in_ok-stored.ensures.counted (λ _. tt) c.self.invariant _ _ (λ o. refl) (λ o. refl) c.follow_quote.ensures)

pub invariant_of-self : goal.invariant_of-self
invariant_of-self g c =
    rw c.in_err-stored.ensures.kept (kept_sound _ _ _ c.put_quote-put.ensures.written c.in_err-stored.ensures.counted
    c.self.invariant)
