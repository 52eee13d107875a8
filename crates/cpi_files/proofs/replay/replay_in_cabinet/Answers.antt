use Rattle.std.proofs.Common.{rules, IsOk, IsErrOf, inr}
use Rattle.std.proofs.lemmas.Result.{err_from_is_err_and}
use Rattle.cpi_files.proofs.replay.replay_in_cabinet.Goals as goal

-- the input was given up
pub returns-in_err-outcome-2-clause-ended : goal.returns-in_err-outcome-2-clause-ended
returns-in_err-outcome-2-clause-ended g c =
    let told = c.from_residual-in_err-outcome-2 in
    let p = err_from_is_err_and told.result told.ensures.1 in
    let is : IsErrOf c.in_ok-outcome.outcome c.in_err-outcome-2.field-0.0 = search rules in
    rw (p.1, p.2) (
      c.in_ok-outcome.outcome,
      c.in_ok-outcome.closed,
      is,
      record {
        rule = c.in-Ok.clock;
        clock = c.in-Ok.ensures.value;
        done = c.in_ok-outcome.ensures.done;
      },
    )

-- all was answered, and the files couldn't be closed
pub returns-in_err-closed-clause-ended : goal.returns-in_err-closed-clause-ended
returns-in_err-closed-clause-ended g c =
    let told = c.from_residual-in_err-closed in
    let p = err_from_is_err_and told.result told.ensures.1 in
    let is : IsOk c.in_ok-outcome.outcome = search rules in
    let unclosed : IsErrOf c.in_ok-outcome.closed c.in_err-closed.field-0.0 = search rules in
    rw (p.1, p.2) (inr (
      c.in_ok-outcome.outcome,
      c.in_ok-outcome.closed,
      (is, unclosed),
      record {
        rule = c.in-Ok.clock;
        clock = c.in-Ok.ensures.value;
        done = c.in_ok-outcome.ensures.done;
      },
    ))

pub returns-clause-ended : goal.returns-clause-ended
returns-clause-ended g c =
    let is : IsOk c.in_ok-outcome.outcome = search rules in
    let closed : IsOk c.in_ok-outcome.closed = search rules in (
      c.in_ok-outcome.outcome,
      c.in_ok-outcome.closed,
      (is, closed),
      record {
        rule = c.in-Ok.clock;
        clock = c.in-Ok.ensures.value;
        done = c.in_ok-outcome.ensures.done;
      },
    )
