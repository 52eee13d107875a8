use Rattle.std.proofs.Common.{rules, ◌≡◌, None, sym, ap, ◌∙◌}
use Rattle.cpi_release.specs.PublishedTables.{published_until}
use Rattle.cpi_store.specs.Tables.{table_until}
use Rattle.cpi_app.proofs.Tabled.{latest_revision}
use Rattle.cpi_app.proofs.table.revision_of.Goals as goal

-- no revision is named
pub returns-in-Ok-Some-clause-same : goal.returns-in-Ok-Some-clause-same
returns-in-Ok-Some-clause-same g c clean =
    let asked = c.args.asked in
    let releases = (g.B.Book.state c.args.book.now).held.releases in
    let none : asked.revision ≡ None = search rules in
    latest_revision asked.month c.in-Ok-Some.revision (published_until asked.until releases)
    (sym c.in-Ok-Some.field-0-is ∙ c.in-Ok-Some.ensures.reads.shown clean)
    ∙ ap (λ r. table_until asked.month r asked.until releases) (sym none)
