use Rattle.std.proofs.Common.{◌≡◌, rules, arith}
use Rattle.sqlite.specs.Held.{state}
use Rattle.sqlite.specs.State.{HasCleanDisk}
use Rattle.cpi_sql_open.specs.Stages.{stage_of}
use Rattle.cpi_sql_open.proofs.MakeLemmas.{some_made}
use Rattle.cpi_sql_open.proofs.Texts.{said}
use Rattle.cpi_sql_open.proofs.make.make_unnumbered.Goals as goal

pub returns : goal.returns
returns g c = λ clean none tables to each.
    let begun = state g.S.Store c.transaction-tx.result.conn.now in
    let first = state g.S.Store c.perform_each.new.tx.conn.now in
    let made = state g.S.Store c.perform_each-2.new.tx.conn.now in
    let there : HasCleanDisk made → made.now.schema ≡ to = λ disk.
    let before : HasCleanDisk first = omega (arith, c.perform_each-2.ensures.survives.clean) in
    some_made (said c.args.more.now) tables to (stage_of begun) (stage_of first) (stage_of made)
    (c.in_ok-perform_each.ensures.ran before) (c.in_ok-perform_each-2.ensures.ran disk) (search rules) (search rules)
    each in
    search rules
