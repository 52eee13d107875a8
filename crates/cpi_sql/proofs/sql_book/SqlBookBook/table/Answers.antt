use Rattle.std.proofs.Common.{rules, ◌≡◌, [], Some, IsTrue, true, false, refl, sym, ap, subst, ◌∙◌}
use Rattle.std.specs.Prelude.{⊤, option_map}
use Rattle.sqlite.specs.Held.{state}
use Rattle.cpi_release.specs.PublishedTables.{PublishedTable}
use Rattle.cpi_store.specs.Office.{Office}
use Rattle.cpi_store.specs.Tables.{table_until}
use Rattle.cpi_sql_reads.specs.Headers.{holds_release, is_header_there}
use Rattle.cpi_sql_rows.specs.Shelf.{IsCleanBook}
use Rattle.cpi_sql_reads.proofs.HeaderLists.{table_shown, there_has}
use Rattle.cpi_sql.proofs.Calls.{looks, same_rows, then_fault, then_read, then_shown}
use Rattle.cpi_sql.proofs.Counted.{on_ok}
use Rattle.cpi_sql.proofs.Followed.{lists_sound, tables_of}
use Rattle.cpi_sql.proofs.TablesTaken.{rests_not, table_stands, table_taken}
use Rattle.cpi_sql.proofs.sql_book.SqlBookBook.table.Goals as goal

pub returns-then-not-is_there : goal.returns-then-not-is_there
returns-then-not-is_there g c =
    let now = state g.S.Store c.self.inside.conn in
    let ready = rw (← c.self.view_is) at c.in_ok-ready_headers.ensures.ready in
    let read = rw (← c.self.view_is) at c.in_ok-ready_headers.ensures.reads in
    let same = rw (← c.self.view_is) at c.in_ok-ready_headers.ensures.now in
    let no : c.is_there.result ≡ false = search rules in
    let told = λ (clean : IsCleanBook now). sym no ∙ c.is_there.ensures
    ∙ ap (is_header_there c.args.month c.args.revision c.args.until)
    (c.deref.ensures.value ∙ ((c.self.invariant clean).cached.headers ready).read) in (
      (
        refl,
        (λ _. tt),
        (
          then_shown _ _ _ _ _ read (λ clean.
              table_shown now.now.trees c.args.month c.args.revision c.args.until [] false (told clean) tt
              (λ never. absurd (let e = never in cc))
              ∙ ap (λ (o : Office). option_map (λ (t : PublishedTable). t.levels)
              (table_until c.args.month (Some c.args.revision) c.args.until o.releases)) (read.keeps.kept clean)),
          same,
          (λ clean. table_taken (state g.S.Store c.args.self.now.held).now now.now _ _ _ false (same clean) (told clean)
              ((c.self.invariant clean).cached.headers ready).taken (λ never. absurd (let e = never in cc))),
        ),
      ),
      record { reads = tt },
    )

pub invariant_of-self-2 : goal.invariant_of-self-2
invariant_of-self-2 g c =
    let ready = rw (← c.self.view_is) at c.in_ok-ready_headers.ensures.ready in
    lists_sound (state g.S.Store c.self.inside.conn) (state g.S.Store c.ready_table-read.new.conn) _ _
    c.ready_table-read.ensures.look.still c.self.invariant (λ clean st. c.ready_table-read.ensures.cached clean st.tables
    (c.deref-2.ensures.value ∙ (st.cached.headers ready).read) st.cached.lists)

pub invariant_of-self-in-Break-branch-2 : goal.invariant_of-self-in-Break-branch-2
invariant_of-self-in-Break-branch-2 g c =
    let ready = rw (← c.self.view_is) at c.in_ok-ready_headers.ensures.ready in
    lists_sound (state g.S.Store c.self.inside.conn) (state g.S.Store c.ready_table-read.new.conn) _ _
    c.ready_table-read.ensures.look.still c.self.invariant (λ clean st. c.ready_table-read.ensures.cached clean st.tables
    (c.deref-2.ensures.value ∙ (st.cached.headers ready).read) st.cached.lists)

pub returns : goal.returns
returns g c =
    let now = state g.S.Store c.self.inside.conn in
    let new = state g.S.Store c.ready_table-read.new.conn in
    let ready = rw (← c.self.view_is) at c.in_ok-ready_headers.ensures.ready in
    let read = rw (← c.self.view_is) at c.in_ok-ready_headers.ensures.reads in
    let same = rw (← c.self.view_is) at c.in_ok-ready_headers.ensures.now in
    let yes : c.is_there.result ≡ true = search rules in
    let before = λ (clean : IsCleanBook new). c.ready_table-read.ensures.look.still.clean clean in
    let headers = λ (clean : IsCleanBook new). (c.self.invariant (before clean)).cached.headers ready in
    let told = λ (clean : IsCleanBook new). sym yes ∙ c.is_there.ensures
    ∙ ap (is_header_there c.args.month c.args.revision c.args.until) (c.deref.ensures.value ∙ (headers clean).read) in
    let tables = λ (clean : IsCleanBook new).
    (c.ready_table-read.ensures.cached clean (c.self.invariant (before clean)).tables
    (c.deref-2.ensures.value ∙ (headers clean).read) (c.self.invariant (before clean)).cached.lists).levels in
    let there = on_ok _ c.in_ok-counted.ensures c.ready_table-read.ensures.ready
    (subst (λ hs. IsTrue (holds_release c.args.month c.args.revision hs))
    (c.deref.ensures.value ∙ sym c.deref-2.ensures.value)
    (there_has c.args.month c.args.revision c.args.until _ (sym c.is_there.ensures ∙ yes))) in (
      (
        refl,
        (λ _. tt),
        (
          then_shown _ _ _ _ _ (then_read _ _ _ _ _ _ read (looks now new _ _ (tables_of now _ c.self.invariant)
              {Shown = λ _. ⊤} _ _ c.ready_table-read.ensures.look c.in_ok-counted.ensures (λ _ _ _. tt)))
              (λ clean.
              c.table.ensures ∙ table_shown now.now.trees c.args.month c.args.revision c.args.until
              c.ready_table-read.new.lists.levels.items true (told clean) (tables clean) (λ _. there)
              ∙ ap (λ (o : Office). option_map (λ (t : PublishedTable). t.levels)
              (table_until c.args.month (Some c.args.revision) c.args.until o.releases))
              (read.keeps.kept (before clean))),
          (λ clean. same_rows now new 0 0 (tables_of now _ c.self.invariant) c.ready_table-read.ensures.look.still clean
              ∙ same (before clean)),
          (λ clean. table_taken (state g.S.Store c.args.self.now.held).now now.now _ _ _ true (same (before clean))
              (told clean) (headers clean).taken (λ _. table_stands now.now.trees c.args.month c.args.revision
              c.ready_table-read.new.lists.levels.items (tables clean) there)),
        ),
      ),
      record { reads = tt },
    )

pub returns-in_err-counted : goal.returns-in_err-counted
returns-in_err-counted g c =
    let now = state g.S.Store c.self.inside.conn in
    let new = state g.S.Store c.ready_table-read.new.conn in
    let read = rw (← c.self.view_is) at c.in_ok-ready_headers.ensures.reads in
    let same = rw (← c.self.view_is) at c.in_ok-ready_headers.ensures.now in
    let look = c.ready_table-read.ensures.look.still in (
      (
        refl,
        (λ _. tt),
        (
          then_fault _ _ _ _ _ refl c.from_residual-in_err-counted.ensures.0
              (then_read _ _ _ _ _ _ read (looks now new _ _ (tables_of now _ c.self.invariant) {Shown = λ _. ⊤} _ _
              c.ready_table-read.ensures.look c.in_err-counted.ensures (λ _ _ _. tt))),
          (λ clean. same_rows now new 0 0 (tables_of now _ c.self.invariant) look clean ∙ same (look.clean clean)),
          rests_not _ _ c.from_residual-in_err-counted.ensures.0,
        ),
      ),
      record { reads = tt },
    )
