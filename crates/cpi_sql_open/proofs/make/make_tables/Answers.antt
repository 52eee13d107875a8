use Rattle.std.proofs.Common.{rules}
use Rattle.sqlite.specs.Held.{state}
use Rattle.cpi_sql_open.proofs.MakeLemmas.{made_survives}
use Rattle.cpi_sql_open.proofs.make.make_tables.Goals as goal

pub returns-clause-crash : goal.returns-clause-crash
returns-clause-crash g c =
    made_survives (state g.S.Store c.args.conn.now) (state g.S.Store c.make_all.new.tx.conn.now) _ (search rules)
    (λ clean none. c.in_ok-make_all.ensures.made clean (search rules) (search rules)) (search rules)
