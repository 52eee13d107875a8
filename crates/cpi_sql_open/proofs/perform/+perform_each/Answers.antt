use Rattle.std.proofs.Common.{arith, sym, subst}
use Rattle.sqlite.specs.Held.{state}
use Rattle.sqlite.specs.State.{HasCleanDisk}
use Rattle.cpi_sql_rows.proofs.FoundTables.{on_ok_implies}
use Rattle.cpi_sql_open.specs.Stages.{RanEach, stage_of}
use Rattle.cpi_sql_open.proofs.Stages.{executed}
use Rattle.cpi_sql_open.proofs.Texts.{said_more}
use Rattle.cpi_sql_open.proofs.perform.+perform_each.Goals as goal

pub returns-clause-ran : goal.returns-clause-ran
returns-clause-ran g t c = λ clean.
    let a = state g.S.Store c.args.tx.now.conn.now in
    let b = state g.S.Store c.execute.new.self.conn.now in
    let d = state g.S.Store c.perform_each.new.tx.conn.now in
    let disk : HasCleanDisk b = omega (arith, c.perform_each.ensures.survives.clean) in
    let one = executed _ a b c.in_ok-_count._count (λ inside. (c.in_ok-_count.ensures.runs disk inside).0) in
    on_ok_implies c.perform_each.result _ _ (c.perform_each.ensures.ran clean)
    (λ rest. subst (λ l. RanEach l (stage_of a) (stage_of d))
    (sym (said_more c.args.texts.now c.in-len1-up.len_at_least)) (stage_of b, one, rest))
