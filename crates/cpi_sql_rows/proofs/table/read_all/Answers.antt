use Rattle.std.proofs.Common.{sym, subst}
use Rattle.sqlite.specs.Held.{state}
use Rattle.cpi_sql_rows.proofs.Whole.{both_ok, on_both, looked, looked_over, table_read, table_whole}
use Rattle.cpi_sql_rows.proofs.table.read_all.Goals as goal

pub returns-clause-look : goal.returns-clause-look
returns-clause-look g c =
    let t = g.T.Table.table in
    looked c.list.result g.T.Table.is_in c.text.result.now (state g.S.Store c.args.conn.now)
    (state g.S.Store c.list.new.conn) _ t.in_office (λ is. rw c.text.ensures (t.asks _ is).plain)
    c.list.ensures.asked c.list.ensures.open

pub returns-clause-read : goal.returns-clause-read
returns-clause-read g c = λ clean has.
    let t = g.T.Table.table in
    both_ok c.list.result _ _ _ (c.list.ensures.read clean.disk) c.list.ensures.order
    (λ xs it order. table_read g.met.T.Key.Ord.total g.T.Keyed.key t.entry g.T.Stored.stands_for
    t.text t.tree t.shown g.met.T.Table.same (state g.S.Store c.args.conn.now)
    (state g.S.Store c.list.new.conn) it.0 xs.items
    (t.asks _ (subst g.T.Table.is_in (sym has.schema) t.in_office)) (rw c.text.ensures at it.1) it.2 order)

pub returns-clause-whole : goal.returns-clause-whole
returns-clause-whole g c = λ clean is.
    let t = g.T.Table.table in
    on_both c.list.result _ _ _ (c.list.ensures.read clean.disk) c.list.ensures.order
    (λ xs it order. table_whole g.met.T.Key.Ord.total g.T.Keyed.key t.entry g.T.Stored.stands_for
    t.text t.tree t.shown g.met.T.Table.same (state g.S.Store c.args.conn.now)
    (state g.S.Store c.list.new.conn) it.0 xs.items (t.asks _ is) (rw c.text.ensures at it.1) it.2 order)

pub returns-clause-found : goal.returns-clause-found
returns-clause-found g c =
    looked_over g.T.Table.is_in c.text.result.now (state g.S.Store c.args.conn.now) (state g.S.Store c.list.new.conn) _
    (λ is. rw c.text.ensures (g.T.Table.table.asks _ is).plain) c.list.ensures.asked
