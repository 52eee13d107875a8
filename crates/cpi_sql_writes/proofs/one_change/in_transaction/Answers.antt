use Rattle.std.proofs.Common.{rules}
use Rattle.sqlite.specs.Held.{state}
use Rattle.cpi_sql_writes.proofs.Committed.{change_done, change_survives, left_done}
use Rattle.cpi_sql_writes.proofs.one_change.in_transaction.Goals as goal

pub returns-in-Ok-clause-crash : goal.returns-in-Ok-clause-crash
returns-in-Ok-clause-crash g c =
    let change = g.C.OneChange in
    change_survives (change.change c.args.change.now) (change.fits c.args.change.now) (state g.S.Store c.args.conn.now)
    (state g.S.Store c.transaction-tx.result.conn.now) (state g.S.Store c.write.new.tx.conn.now) _ (search rules)
    (search rules) (λ clean. c.in_ok-write.ensures.written.step clean (search rules)) (search rules)

pub returns-in-Err-clause-crash : goal.returns-in-Err-clause-crash
returns-in-Err-clause-crash g c =
    let change = g.C.OneChange in
    change_survives (change.change c.args.change.now) (change.fits c.args.change.now) (state g.S.Store c.args.conn.now)
    (state g.S.Store c.transaction-tx.result.conn.now) (state g.S.Store c.write.new.tx.conn.now) _ (search rules)
    (search rules) (λ clean. c.in_ok-write.ensures.written.step clean (search rules)) (search rules)

pub returns-in-Ok-clause-done : goal.returns-in-Ok-clause-done
returns-in-Ok-clause-done g c = λ clean has fits.
    let change = g.C.OneChange in
    change_done (change.fits c.args.change.now) (state g.S.Store c.args.conn.now)
    (state g.S.Store c.transaction-tx.result.conn.now) (state g.S.Store c.write.new.tx.conn.now) _ (search rules)
    (search rules) has fits (change.change c.args.change.now)
    (c.in_ok-write.ensures.written.step (search rules) (search rules)) (search rules)

pub returns-in-Ok-clause-left : goal.returns-in-Ok-clause-left
returns-in-Ok-clause-left g c = λ clean has fits.
    let change = g.C.OneChange in
    left_done (change.fits c.args.change.now) (state g.S.Store c.args.conn.now)
    (state g.S.Store c.transaction-tx.result.conn.now) (state g.S.Store c.write.new.tx.conn.now)
    (state g.S.Store c.conn-2-1.given.0) (search rules) (search rules) has fits (change.leaves c.args.change.now)
    (c.in_ok-write.ensures.left.step (search rules) (search rules))
