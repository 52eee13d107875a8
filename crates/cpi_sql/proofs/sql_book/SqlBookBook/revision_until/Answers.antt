use Rattle.std.proofs.Common.{None, sym, ap, ◌∙◌}
use Rattle.std.specs.Prelude.{option_map}
use Rattle.sqlite.specs.Held.{state}
use Rattle.cpi_release.specs.PublishedTables.{PublishedTable}
use Rattle.cpi_store.specs.Office.{Office}
use Rattle.cpi_store.specs.Tables.{table_until}
use Rattle.cpi_sql_reads.specs.Headers.{latest_revision}
use Rattle.cpi_sql_reads.proofs.HeaderLists.{revision_is}
use Rattle.cpi_sql.proofs.Calls.{then_shown}
use Rattle.cpi_sql.proofs.sql_book.SqlBookBook.revision_until.Goals as goal

pub returns-clause-reads : goal.returns-clause-reads
returns-clause-reads g c =
    let now = state g.S.Store c.self.inside.conn in
    let ready = rw (← c.self.view_is) at c.in_ok-ready_headers.ensures.ready in
    let reads = rw (← c.self.view_is) at c.in_ok-ready_headers.ensures.reads in
    rw (← c.self.view_is) (then_shown _ _ _ _ _ reads (λ clean.
    c.revision_published.ensures ∙ ap (latest_revision c.args.month c.args.until)
    (c.deref.ensures.value ∙ ((c.self.invariant clean).cached.headers ready).read)
    ∙ sym (revision_is now.now.trees c.args.month c.args.until)
    ∙ ap (λ (o : Office). option_map (λ (t : PublishedTable). t.revision)
    (table_until c.args.month None c.args.until o.releases)) (reads.keeps.kept clean)))
