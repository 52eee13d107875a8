use Rattle.std.proofs.Common.{◌≡◌, true, ap, subst, ◌∙◌}
use Rattle.sqlite.specs.Held.{state}
use Rattle.cpi_index.specs.Series.{frozen_serial, are_by_series}
use Rattle.cpi_store.specs.Office.{Office, quotes_of_month}
use Rattle.cpi_sql_rows.specs.Shelf.{survey_of}
use Rattle.cpi_sql.proofs.Calls.{then_found}
use Rattle.cpi_sql.proofs.sql_book.SqlBookBook.month_rows.Goals as goal

pub returns-clause-reads : goal.returns-clause-reads
returns-clause-reads g c =
    let ready = rw (← c.self.view_is) at c.in_ok-ready_survey.ensures.ready in
    let reads = rw (← c.self.view_is) at c.in_ok-ready_survey.ensures.reads in
    then_found _ _ _ (state g.S.Store c.self.inside.conn) _ _ _ _ reads c.counted.ensures (λ clean found is.
    subst (λ (o : Office). are_by_series frozen_serial (quotes_of_month c.args.month o) ≡ true →
    found.items ≡ quotes_of_month c.args.month o)
    (((c.self.invariant clean).cached.survey ready).read ∙ ap survey_of (reads.keeps.kept clean))
    (rw is at c.month_rows-found.ensures))
