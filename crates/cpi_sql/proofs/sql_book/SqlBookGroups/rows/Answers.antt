use Rattle.std.proofs.Common.{◌≡◌, IsTrue, subst, sym, ◌∙◌}
use Rattle.std.specs.Prelude.{OnOk}
use Rattle.sqlite.specs.Effect.{Database}
use Rattle.sqlite.specs.Held.{state}
use Rattle.cpi_codes.specs.Month.{year_of}
use Rattle.cpi_release.proofs.Late.{late}
use Rattle.cpi_release.specs.CachedSamples.{IsFit}
use Rattle.cpi_release.specs.GroupCalls.{IsAfterFrozen, group_of}
use Rattle.cpi_store.specs.Office.{Office}
use Rattle.cpi_store.specs.Sources.{office_sources}
use Rattle.cpi_sql_rows.specs.Lists.{office_in}
use Rattle.cpi_sql_rows.specs.Shelf.{IsCleanBook}
use Rattle.cpi_sql_reads.specs.Samples.{SamplesTaken}
use Rattle.cpi_sql.proofs.Calls.{looks, same_rows, then_fault, then_read}
use Rattle.cpi_sql.proofs.Counted.{answers, was_ok}
use Rattle.cpi_sql.proofs.Followed.{look_sound, tables_of}
use Rattle.cpi_sql.proofs.sql_book.SqlBookGroups.rows.Goals as goal

-- the headers and the survey are read
ready : (g : _) (c : goal.After-counted g) → IsTrue c.self.inside.has_headers × IsTrue c.self.inside.is_read
ready g c = (
  rw (← c.self.view_is) at (subst IsTrue (sym c.ready_survey.ensures.kept)
      (rw (was_ok _ c.in_ok-map_err.ensures.variant) at c.ready_headers.ensures.ready)),
  rw (← c.self.view_is) at (rw (was_ok _ c.in_ok-map_err-2.ensures.variant) at c.ready_survey.ensures.ready),
)

pub invariant_of-self : goal.invariant_of-self
invariant_of-self g c =
    look_sound (state g.S.Store c.self.inside.conn) (state g.S.Store c.sample_of-found.new.conn) _ _
    c.sample_of-found.ensures.look.still c.self.invariant
    (λ clean st. record {
      survey = st.cached.survey;
      headers = st.cached.headers;
      lists = c.sample_of-found.ensures.lists clean st.tables
          (c.deref.ensures.value ∙ (st.cached.headers (ready g c).0).read) st.cached.lists;
      samples = c.sample_of-found.ensures.cached clean st.tables
          (c.deref.ensures.value ∙ (st.cached.headers (ready g c).0).read) st.cached.lists
          (st.cached.survey (ready g c).1).read st.cached.samples;
    })

pub returns-clause-reads : goal.returns-clause-reads
returns-clause-reads g c =
    let now = state g.S.Store c.self.inside.conn in
    let new = state g.S.Store c.sample_of-found.new.conn in
    let read = rw (← c.self.view_is) at (then_read _ _ _ _ _ _
    (rw (was_ok _ c.in_ok-map_err.ensures.variant) at c.ready_headers.ensures.reads)
    (rw (was_ok _ c.in_ok-map_err-2.ensures.variant) at c.ready_survey.ensures.reads)) in
    then_read _ _ _ _ _ _ read (looks now new _ _ (tables_of now _ c.self.invariant) _ _ c.sample_of-found.ensures.look
    c.counted.ensures (λ clean rows is.
    let before = c.sample_of-found.ensures.look.still.clean clean in
    let st = c.self.invariant before in
    subst (λ (o : Office). IsFit (office_sources o) → c.args._year ≡ year_of c.args.month →
    IsAfterFrozen (office_sources o) c.args.month →
    rows.items ≡ group_of (office_sources o) c.args.month c.args.code)
    (read.keeps.kept before) (λ fit _ after. rw is at (
    c.sample_of-found.ensures.read clean st.tables (c.deref.ensures.value ∙ (st.cached.headers (ready g c).0).read)
    st.cached.lists (st.cached.survey (ready g c).1).read st.cached.samples fit
    (late (office_sources (office_in now.now.trees)) c.args.month fit.0 after)))))

-- the rows are as they were when the headers and the survey are read
same : (g : _) (c : goal.After-counted g) → IsCleanBook (state g.S.Store c.self.inside.conn)
    → (state g.S.Store c.self.inside.conn).now ≡ (state g.S.Store c.args.self.now.held).now
same g c before =
    let second = rw (← c.self.view_is) at c.ready_survey.ensures.reads in
    (rw (← c.self.view_is) at c.ready_survey.ensures.now) before
    ∙ c.ready_headers.ensures.now (second.keeps.was_clean before)

pub returns-clause-now : goal.returns-clause-now
returns-clause-now g c = λ clean.
    let now = state g.S.Store c.self.inside.conn in
    let look = c.sample_of-found.ensures.look.still in
    same_rows now (state g.S.Store c.sample_of-found.new.conn) 0 0 (tables_of now _ c.self.invariant) look clean
    ∙ same g c (look.clean clean)

pub returns-clause-lists : goal.returns-clause-lists
returns-clause-lists g c = λ clean.
    let before = c.sample_of-found.ensures.look.still.clean clean in
    let st = c.self.invariant before in
    subst (λ (d : Database). OnOk c.counted.result (SamplesTaken c.args.month d.trees)) (same g c before)
    (answers _ _ _ c.counted.ensures
    (c.sample_of-found.ensures.taken clean st.tables (c.deref.ensures.value ∙ (st.cached.headers (ready g c).0).read)
    st.cached.lists (st.cached.survey (ready g c).1).read st.cached.samples))

pub returns-in_err-map_err-2-clause-reads : goal.returns-in_err-map_err-2-clause-reads
returns-in_err-map_err-2-clause-reads g c =
    then_fault _ _ _ _ _ c.in_err-map_err-2.ensures.variant c.from_residual-in_err-map_err-2.ensures.0
    (then_read _ _ _ _ _ _ (rw (was_ok _ c.in_ok-map_err.ensures.variant) at c.ready_headers.ensures.reads)
    c.ready_survey.ensures.reads)
