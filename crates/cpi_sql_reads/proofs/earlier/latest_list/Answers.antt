use Rattle.std.proofs.Common.{◌≡◌, None, Some, sym, ap, subst, ◌∙◌}
use Rattle.std.specs.Option.{option_copied}
use Rattle.sqlite.specs.Held.{state}
use Rattle.cpi_sql_rows.specs.Lists.{headers_in}
use Rattle.cpi_sql_rows.proofs.Whole.{both_ok}
use Rattle.cpi_sql_reads.specs.Headers.{latest_header}
use Rattle.cpi_sql_reads.specs.ReleaseLists.{IsListOfRelease}
use Rattle.cpi_sql_reads.proofs.HeaderLists.{latest_found, latest_none}
use Rattle.cpi_sql_reads.proofs.earlier.latest_list.Goals as goal

pub returns-in-Some-clause-read : goal.returns-in-Some-clause-read
returns-in-Some-clause-read g c = λ clean has is stand.
    let trees = (state g.S.Store c.args.conn.now).now.trees in
    let h = c.in-Some.header.now in
    let latest : latest_header c.args.month (headers_in (trees 26)) ≡ Some h =
    ap (latest_header c.args.month) (sym is) ∙ sym c.header_of.ensures ∙ ap option_copied c.in-Some.is in
    both_ok c.list_at.result _ _ _ c.list_at.ensures.asked (c.list_at.ensures.read clean has is stand)
    (λ found asked list. latest_found trees g.T.ReleaseRow.table g.T.ReleaseRow.listed_by c.args.month h latest found
    (subst (λ hs. IsListOfRelease (c.args.month, h.revision) hs found) is asked) list)

pub returns-in-None-clause-read : goal.returns-in-None-clause-read
returns-in-None-clause-read g c = λ clean has is stand.
    let trees = (state g.S.Store c.args.conn.now).now.trees in
    let none : latest_header c.args.month (headers_in (trees 26)) ≡ None =
    ap (latest_header c.args.month) (sym is) ∙ sym c.header_of.ensures ∙ ap option_copied c.in-None.is in
    latest_none trees g.T.ReleaseRow.table g.T.ReleaseRow.listed_by c.args.month none
