use Rattle.std.proofs.Common.{IsTrue, ap, subst, ◌∙◌}
use Rattle.std.specs.Prelude.{OnOk}
use Rattle.sqlite.specs.Effect.{Database}
use Rattle.sqlite.specs.Held.{state}
use Rattle.cpi_release.specs.Releases.{level_at_month}
use Rattle.cpi_store.specs.Office.{Office}
use Rattle.cpi_sql_rows.specs.Lists.{level_in_row}
use Rattle.cpi_sql_reads.specs.Headers.{LatestStands}
use Rattle.cpi_sql.proofs.Calls.{looks, same_rows, then_read}
use Rattle.cpi_sql.proofs.Counted.{answers, was_ok}
use Rattle.cpi_sql.proofs.Followed.{lists_sound, tables_of}
use Rattle.cpi_sql.proofs.sql_book.SqlBookGroups.chained.Goals as goal

-- the headers are read
ready : (g : _) (c : goal.After-counted g) → IsTrue c.self.inside.has_headers
ready g c = rw (← c.self.view_is) at (rw (was_ok _ c.in_ok-map_err.ensures.variant) at c.ready_headers.ensures.ready)

pub invariant_of-self : goal.invariant_of-self
invariant_of-self g c =
    lists_sound (state g.S.Store c.self.inside.conn) (state g.S.Store c.chained_level-found.new.conn) _ _
    c.chained_level-found.ensures.look.still c.self.invariant
    (λ clean st. c.chained_level-found.ensures.cached clean st.tables
    (c.deref.ensures.value ∙ (st.cached.headers (ready g c)).read) st.cached.lists)

pub returns-clause-reads : goal.returns-clause-reads
returns-clause-reads g c =
    let now = state g.S.Store c.self.inside.conn in
    let new = state g.S.Store c.chained_level-found.new.conn in
    let read = rw (← c.self.view_is) at
    (rw (was_ok _ c.in_ok-map_err.ensures.variant) at c.ready_headers.ensures.reads) in
    then_read _ _ _ _ _ _ read (looks now new _ _ (tables_of now _ c.self.invariant) _ _
    c.chained_level-found.ensures.look c.counted.ensures (λ clean level is fit.
    let before = c.chained_level-found.ensures.look.still.clean clean in
    let st = c.self.invariant before in
    (rw is at (c.chained_level-found.ensures.read clean st.tables
    (c.deref.ensures.value ∙ (st.cached.headers (ready g c)).read) st.cached.lists))
    ∙ ap (λ (o : Office). level_at_month o.releases c.args.month c.args.code) (read.keeps.kept before)))

pub returns-clause-now : goal.returns-clause-now
returns-clause-now g c = λ clean.
    let now = state g.S.Store c.self.inside.conn in
    let same = rw (← c.self.view_is) at c.ready_headers.ensures.now in
    let look = c.chained_level-found.ensures.look.still in
    same_rows now (state g.S.Store c.chained_level-found.new.conn) 0 0 (tables_of now _ c.self.invariant) look clean
    ∙ same (look.clean clean)

pub returns-clause-rows : goal.returns-clause-rows
returns-clause-rows g c = λ clean.
    let same = rw (← c.self.view_is) at c.ready_headers.ensures.now in
    let before = c.chained_level-found.ensures.look.still.clean clean in
    let st = c.self.invariant before in
    subst (λ (d : Database). OnOk c.counted.result (LatestStands level_in_row 32 c.args.month d.trees)) (same before)
    (answers _ _ _ c.counted.ensures
    (c.chained_level-found.ensures.taken clean st.tables (c.deref.ensures.value ∙ (st.cached.headers (ready g c)).read)
    st.cached.lists))
