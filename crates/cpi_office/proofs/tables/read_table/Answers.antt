use Rattle.std.proofs.Common.{◌≡◌, ℕ, List, Option, Some, None, Result, IfOk, sym, ap, ◌∙◌}
use Rattle.std.specs.Prelude.{option_map}
use Rattle.std.specs.declared.alloc.AllocError.{AllocError}
use Rattle.cpi_release.specs.PublishedTables.{PublishedTable, printed_bytes, published_until}
use Rattle.cpi_store.specs.Tables.{table_until}
use Rattle.cpi_store.specs.Office.{Office}
use Rattle.cpi_office.specs.Answers.{table_bytes}
use Rattle.cpi_office.proofs.Tabled.{reads_then, same_reads, if_printed, named_bytes, latest_bytes}
use Rattle.cpi_office.proofs.tables.read_table.Goals as goal

pub returns-in-Some : goal.returns-in-Some
returns-in-Some g c =
    let old = g.S.Sight.state c.args.sight.now in
    let new = g.S.Sight.state c.print_revision.new.sight in
    let month = c.args.month in
    let form = c.args.form in
    let revision = c.in-Some.revision in
    let asked : c.args.edition ≡ Some revision = sym c.revision.ensures ∙ c.in-Some.is in
    let tables = published_until c.args.present old.held.releases in
    let levels : Option (List ℕ) = option_map (printed_bytes form month revision)
    (option_map (λ (t : PublishedTable). t.levels)
    (table_until month (Some revision) c.args.present old.held.releases)) in
    let wanted : Option (List ℕ) = option_map (table_bytes form month)
    (table_until month c.args.edition c.args.present old.held.releases) in
    let same : levels ≡ wanted = named_bytes month tables form revision
    ∙ ap (λ e. option_map (table_bytes form month) (table_until month e c.args.present old.held.releases)) (sym asked) in
    same_reads old new (λ (found : Result (Option (List ℕ)) AllocError). IfOk found (λ printed. printed ≡ levels))
    (λ (found : Result (Option (List ℕ)) AllocError). IfOk found (λ printed. printed ≡ wanted))
    c.print_revision.result c.print_revision.ensures
    (λ clean found shown. if_printed found levels wanted same shown)

pub returns-in-Some-2 : goal.returns-in-Some-2
returns-in-Some-2 g c =
    let old = g.S.Sight.state c.args.sight.now in
    let mid = g.S.Sight.state c.latest_published.new.self in
    let new = g.S.Sight.state c.print_revision-in-Some-2.new.sight in
    let first = c.in_ok-latest-in-None.ensures.reads in
    let last = c.print_revision-in-Some-2.ensures in
    let asked : c.args.edition ≡ None = sym c.revision.ensures ∙ c.in-None.is in
    let month = c.args.month in
    let form = c.args.form in
    let latest = c.in-Some-2.latest in
    let tables = published_until c.args.present old.held.releases in
    let levels : Office → Option (List ℕ) = λ o. option_map (printed_bytes form month latest)
    (option_map (λ (t : PublishedTable). t.levels) (table_until month (Some latest) c.args.present o.releases)) in
    let wanted : Option (List ℕ) = option_map (table_bytes form month)
    (table_until month c.args.edition c.args.present old.held.releases) in
    reads_then old mid new first.keeps first.stays first.count
    (λ (found : Result (Option (List ℕ)) AllocError). IfOk found (λ printed. printed ≡ levels mid.held))
    (λ (found : Result (Option (List ℕ)) AllocError). IfOk found (λ printed. printed ≡ wanted))
    c.print_revision-in-Some-2.result last
    (λ clean found shown.
    let was = last.keeps.was_clean clean in
    let is : Some latest ≡ option_map (λ (t : PublishedTable). t.revision)
    (table_until month None c.args.present old.held.releases) = sym c.in-Some-2.is ∙ first.shown was in
    let same : levels mid.held ≡ wanted =
    ap levels (first.keeps.kept was) ∙ named_bytes month tables form latest ∙ latest_bytes month tables form latest is
    ∙ ap (λ e. option_map (table_bytes form month) (table_until month e c.args.present old.held.releases)) (sym asked) in
    if_printed found (levels mid.held) wanted same shown)
