use Rattle.std.proofs.Common.{arith}
use Rattle.sqlite.specs.Held.{state}
use Rattle.cpi_sql_rows.proofs.Asking.{executes_open, executes_opens, ran_kept}
use Rattle.cpi_sql_rows.proofs.ask.run.Goals as goal

pub returns-clause-clean : goal.returns-clause-clean
returns-clause-clean g c = λ clean.
    let old = state g.S.Store c.args.conn.now in
    let new = state g.S.Store c.execute.new.self in
    record {
      disk = let d = clean.disk in omega (arith, c.execute.ensures.survives.clean);
      is_open = executes_open old new _ _ c.execute.result (c.execute.ensures.runs clean.disk) clean.is_open;
    }

pub returns-clause-kept : goal.returns-clause-kept
returns-clause-kept g c = λ clean alone.
    let old = state g.S.Store c.args.conn.now in
    let new = state g.S.Store c.execute.new.self in
    ran_kept old new (λ was. c.settle.ensures.committed was alone) alone clean.is_open _ _ c.execute.result
    (c.execute.ensures.runs clean.disk)

pub returns-clause-open : goal.returns-clause-open
returns-clause-open g c = λ disk alone.
    executes_opens (state g.S.Store c.args.conn.now) (state g.S.Store c.execute.new.self) alone _ _ c.execute.result
    (c.execute.ensures.runs disk)
