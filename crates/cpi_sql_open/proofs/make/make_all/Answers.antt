use Rattle.std.proofs.Common.{arith}
use Rattle.sqlite.specs.Held.{state}
use Rattle.sqlite.specs.State.{HasCleanDisk}
use Rattle.cpi_sql_rows.proofs.FoundTables.{on_ok_implies}
use Rattle.cpi_sql_open.proofs.MakeLemmas.{all_blank}
use Rattle.cpi_sql_open.proofs.make.make_all.Goals as goal

pub returns-clause-made : goal.returns-clause-made
returns-clause-made g c = λ clean inside none.
    let clean_2 : HasCleanDisk (state g.S.Store c.perform_each-2.new.tx.conn.now) =
    omega (arith, c.perform_each-3.ensures.survives.clean) in
    let clean_1 : HasCleanDisk (state g.S.Store c.perform_each.new.tx.conn.now) =
    omega (arith, c.perform_each-2.ensures.survives.clean) in
    on_ok_implies c.perform_each-3.result _ _ (c.perform_each-3.ensures.ran clean)
    (λ last. all_blank _ _ _ (state g.S.Store c.perform_each-3.new.tx.conn.now)
    (c.in_ok-perform_each.ensures.ran clean_1) (c.in_ok-perform_each-2.ensures.ran clean_2) last inside none)
