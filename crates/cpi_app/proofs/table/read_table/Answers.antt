use Rattle.std.proofs.Common.{◌≡◌, Result, Ok, Err, IfOk, Some, subst, sym, ap, ap₂, ◌∙◌}
use Rattle.std.specs.Prelude.{option_map}
use Rattle.std.specs.Option.{option_copied}
use Rattle.std.proofs.lemmas.Result.{err_from_is_err_and}
use Rattle.cpi_release.specs.PublishedTables.{PublishedTable, printed_bytes, published_until}
use Rattle.cpi_store.specs.Office.{Office}
use Rattle.cpi_store.specs.Tables.{table_until}
use Rattle.cpi_app.proofs.Tabled.{with_levels}
use Rattle.cpi_app.proofs.table.read_table.Goals as goal

if_ok : {A E : Type 0} (r : Result A E) (x : A) (P : A → Type 0) → r ≡ Ok x → IfOk r P → P x
if_ok (Ok y) x P e p = let is : y ≡ x = cc in subst P is p
if_ok (Err f) x P e p = let no : Err f ≡ Ok x = e in cc

-- there is no revision to read
pub returns-in_err-revision-clause-fault : goal.returns-in_err-revision-clause-fault
returns-in_err-revision-clause-fault g c clean =
    let p = err_from_is_err_and c.from_residual.result c.from_residual.ensures.1 in
    rw (p.1, p.2) (c.in_err-revision.ensures.fault clean)

pub returns-in-Ok-clause-printed : goal.returns-in-Ok-clause-printed
returns-in-Ok-clause-printed g c clean =
    let asked = c.args.asked in
    let revision = c.in_ok-revision.revision in
    let old = (g.B.Book.state c.args.book.now).held in
    let reads = c.table.follows.holds-at-none in
    let was = reads.keeps.was_clean clean in
    let kept = c.in_ok-revision.ensures.keeps.kept was in
    let shown = if_ok c.table.result c.in-Ok-Some.field-0 _ c.in-Ok-Some.is (reads.shown clean) in
    let rows = λ (o : Office). option_map (λ (t : PublishedTable). t.levels)
    (table_until asked.month (Some revision) asked.until o.releases) in
    let found = with_levels asked.month revision (published_until asked.until old.releases) c.in-Ok-Some.levels.now
    (sym (ap option_copied c.in-Ok-Some.field-0-is) ∙ shown ∙ ap rows kept) in
    let bytes = ap₂ (λ r levels. printed_bytes asked.form asked.month r levels) (sym found.2)
    (c.as_slice.ensures ∙ found.3) in
    (found.0, sym (c.in_ok-revision.ensures.same was) ∙ found.1, c.in-Ok.ensures ∙ bytes)
