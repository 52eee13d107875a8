use Rattle.std.proofs.Common.{map, sym, ap, ◌∙◌}
use Rattle.sqlite.specs.Held.{state}
use Rattle.cpi_release.specs.PublishedTables.{frozen_month_of, published_until}
use Rattle.cpi_store.specs.Office.{Office}
use Rattle.cpi_sql_reads.specs.Headers.{months_until}
use Rattle.cpi_sql_reads.proofs.HeaderLists.{tables_are}
use Rattle.cpi_sql.proofs.Calls.{then_found}
use Rattle.cpi_sql.proofs.sql_book.SqlBookBook.tables_until.Goals as goal

pub returns-clause-reads : goal.returns-clause-reads
returns-clause-reads g c =
    let now = state g.S.Store c.self.inside.conn in
    let ready = rw (← c.self.view_is) at c.in_ok-ready_headers.ensures.ready in
    let reads = rw (← c.self.view_is) at c.in_ok-ready_headers.ensures.reads in
    then_found _ _ _ now _ _ _ _ reads c.counted.ensures (λ clean found is.
    (rw is at c.published_months-found.ensures) ∙ ap (months_until c.args.until)
    (c.deref.ensures.value ∙ ((c.self.invariant clean).cached.headers ready).read)
    ∙ sym (tables_are now.now.trees c.args.until)
    ∙ ap (λ (o : Office). map frozen_month_of (published_until c.args.until o.releases)) (reads.keeps.kept clean))
