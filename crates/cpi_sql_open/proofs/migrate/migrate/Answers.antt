use Rattle.std.proofs.Common.{rules}
use Rattle.sqlite.specs.Held.{state}
use Rattle.cpi_sql_open.proofs.Moved.{moved_survives}
use Rattle.cpi_sql_open.proofs.migrate.migrate.Goals as goal

pub returns-in_err-done-clause-crash : goal.returns-in_err-done-clause-crash
returns-in_err-done-clause-crash g c =
    moved_survives (state g.S.Store c.args.conn.now) (state g.S.Store c.transaction-tx.result.conn.now)
    (state g.S.Store c.move_rows.new.tx.conn.now) _ (search rules) (search rules)
    (λ clean first ids. c.in_ok-move_rows.ensures.moved clean (search rules) first ids) (search rules)

pub returns-clause-crash : goal.returns-clause-crash
returns-clause-crash g c =
    moved_survives (state g.S.Store c.args.conn.now) (state g.S.Store c.transaction-tx.result.conn.now)
    (state g.S.Store c.move_rows.new.tx.conn.now) _ (search rules) (search rules)
    (λ clean first ids. c.in_ok-move_rows.ensures.moved clean (search rules) first ids) (search rules)
