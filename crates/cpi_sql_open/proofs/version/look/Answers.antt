use Rattle.std.proofs.Common.{subst}
use Rattle.sqlite.specs.Held.{state}
use Rattle.cpi_sql_open.specs.Said.{SaysVersion}
use Rattle.cpi_sql_open.proofs.Undone.{query_keeps}
use Rattle.cpi_sql_open.proofs.version.look.Goals as goal

pub returns-in_err-rows-clause-kept : goal.returns-in_err-rows-clause-kept
returns-in_err-rows-clause-kept g c = λ clean inside. query_keeps (state g.S.Store c.args.tx.now.conn.now)
    (state g.S.Store c.query_all.new.self.conn.now) inside
    (λ rows. rows.items) _ _ c.query_all.result (c.query_all.ensures.ok clean) (c.query_all.ensures.err clean)

pub returns-clause-kept : goal.returns-clause-kept
returns-clause-kept g c = λ clean inside. query_keeps (state g.S.Store c.args.tx.now.conn.now)
    (state g.S.Store c.query_all.new.self.conn.now) inside
    (λ rows. rows.items) _ _ c.query_all.result (c.query_all.ensures.ok clean) (c.query_all.ensures.err clean)

pub returns-clause-shown : goal.returns-clause-shown
returns-clause-shown g c = λ disk. (
  c.in_ok-rows.rows.items,
  c.in_ok-rows.ensures.ok disk,
  subst (SaysVersion c.said.result) c.deref.ensures.value c.said.ensures,
)
