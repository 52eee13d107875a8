use Rattle.std.proofs.Common.{◌≡◌, rules, sym, ap, ◌∙◌, true}
use Rattle.sqlite.specs.Held.{state}
use Rattle.cpi_rows.proofs.Found.{row_key}
use Rattle.cpi_release.specs.FrozenMonths.{release_cmp}
use Rattle.cpi_sql_rows.specs.Lists.{headers_in}
use Rattle.cpi_sql_reads.specs.Headers.{holds_release}
use Rattle.cpi_sql_reads.specs.ReleaseLists.{list_key}
use Rattle.cpi_sql_reads.proofs.HeaderLists.{cached_is, key_is, list_read}
use Rattle.cpi_sql_reads.proofs.earlier.list_at.Goals as goal

pub returns-in-Some-clause-asked : goal.returns-in-Some-clause-asked
returns-in-Some-clause-asked g c =
    let l = c.in-Some.list in
    key_is l.month l.revision c.args.month c.args.revision
    (row_key release_cmp list_key (c.args.month, c.args.revision) l c.args.lists.now.items
    (sym c.in-Some.ensures.taken))

pub returns-in-Some-clause-read : goal.returns-in-Some-clause-read
returns-in-Some-clause-read g c = λ clean has is stand.
    (cached_is g.T.ReleaseRow.table g.T.ReleaseRow.listed_by (state g.S.Store c.args.conn.now).now.trees
    c.args.lists.now.items c.args.month c.args.revision c.in-Some.list stand (sym c.in-Some.ensures.taken)).0

pub returns-clause-read : goal.returns-clause-read
returns-clause-read g c = λ clean has is stand.
    let trees = (state g.S.Store c.args.conn.now).now.trees in
    let yes : c.has_release.result ≡ true = search rules in
    let there : holds_release c.args.month c.args.revision (headers_in (trees 26)) ≡ true =
    ap (holds_release c.args.month c.args.revision) (sym is) ∙ sym c.has_release.ensures ∙ yes in
    rw (c.new.ensures, c.of.ensures) (list_read trees g.T.ReleaseRow.table g.T.ReleaseRow.listed_by
    g.met.T.ReleaseRow.of_releases c.args.month c.args.revision there c.in_ok-rows.rows.items
    (c.in_ok-rows.ensures.read clean has) (c.in_ok-rows.ensures.stand clean has))
