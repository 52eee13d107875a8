use Rattle.std.proofs.Common.{rules, ◌≡◌, subst}
use Rattle.sqlite.specs.Held.{state}
use Rattle.sqlite.specs.State.{HasCleanDisk}
use Rattle.cpi_sql_open.specs.Said.{SaysVersion}
use Rattle.cpi_sql_open.proofs.NumberedLemmas.{second_found}
use Rattle.cpi_sql_rows.proofs.Whole.{if_ok}
use Rattle.cpi_sql_open.proofs.version.read_version.Goals as goal

pub returns-clause-second : goal.returns-clause-second
returns-clause-second g c = λ clean.
    let s = state g.S.Store c.args.conn.now in
    let begun = state g.S.Store c.transaction-tx.result.conn.now in
    let looked = state g.S.Store c.look-found.new.tx.conn.now in
    let disk : HasCleanDisk looked = search rules in
    let start : begun.now ≡ s.now = search rules in
    if_ok c.look-found.result _ _ (c.look-found.ensures.shown disk)
    (λ v it is has. second_found s begun looked it.0 start has it.1 (subst (λ w. SaysVersion w it.0) is it.2))

pub returns-clause-shown : goal.returns-clause-shown
returns-clause-shown g c = λ clean.
    let s = state g.S.Store c.args.conn.now in
    let begun = state g.S.Store c.transaction-tx.result.conn.now in
    let looked = state g.S.Store c.look-found.new.tx.conn.now in
    let disk : HasCleanDisk looked = search rules in
    let start : begun.now ≡ s.now = search rules in
    if_ok c.look-found.result _ _ (c.look-found.ensures.shown disk)
    (λ v it. (c.transaction-tx.result.conn.now, c.look-found.new.tx.conn.now, start, it.0, it.1, it.2))
