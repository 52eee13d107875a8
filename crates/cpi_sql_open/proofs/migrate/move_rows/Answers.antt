use Rattle.std.proofs.Common.{arith, subst}
use Rattle.sqlite.specs.Held.{state}
use Rattle.sqlite.specs.State.{HasCleanDisk}
use Rattle.cpi_sql_rows.specs.Numbered.{IsVersion}
use Rattle.cpi_sql_open.specs.Said.{SaysVersion}
use Rattle.cpi_sql_open.proofs.Moved.{all_moved, moved_seen}
use Rattle.cpi_sql_open.proofs.migrate.move_rows.Goals as goal

pub returns-in_ok-perform_each-in-First-4-clause-moved : goal.returns-in_ok-perform_each-in-First-4-clause-moved
returns-in_ok-perform_each-in-First-4-clause-moved g c = λ clean inside first ids.
    let b = state g.S.Store c.look.new.tx.conn.now in
    let d = state g.S.Store c.perform_each-in-First-3.new.tx.conn.now in
    let clean_3 : HasCleanDisk (state g.S.Store c.perform_each-in-First-2.new.tx.conn.now) =
    omega (arith, c.perform_each-in-First-3.ensures.survives.clean) in
    let clean_2 : HasCleanDisk (state g.S.Store c.perform_each-in-First.new.tx.conn.now) =
    omega (arith, c.perform_each-in-First-2.ensures.survives.clean) in
    let clean_1 : HasCleanDisk (state g.S.Store c.perform_each.new.tx.conn.now) =
    omega (arith, c.perform_each-in-First.ensures.survives.clean) in
    let clean_b : HasCleanDisk b = omega (arith, c.perform_each.ensures.survives.clean) in
    let seen = c.in_ok-look.ensures.shown clean_b in
    let one : IsVersion 1 seen.0 = subst (λ v. SaysVersion v seen.0) c.in-First.is seen.2 in
    moved_seen (state g.S.Store c.args.tx.now.conn.now) b d seen.0 inside first ids seen.1 one
    (all_moved b d _ _ _ (c.in_ok-perform_each-in-First.ensures.ran clean_1)
    (c.in_ok-perform_each-in-First-2.ensures.ran clean_2) (c.in_ok-perform_each-in-First-3.ensures.ran clean_3)
    (c.in_ok-perform_each-in-First-4.ensures.ran clean))
