use Rattle.std.proofs.Common.{rules, tests, ◌≡◌, ◌==◌, ◌&&◌, ap, ◌∙◌}
use Rattle.std.specs.Option.{option_copied}
use Rattle.std.specs.Prelude.{nat_le, option_map}
use Rattle.std.proofs.lemmas.Iterator.Adapters.{YieldsList-from_rev_slice}
use Rattle.std.proofs.lemmas.Iterator.Search.{find_from_yields_List}
use Rattle.cpi_sql_rows.specs.declared.release_rows.Header.{Header}
use Rattle.cpi_sql_reads.proofs.LatestHeaders.{latest_passing}
use Rattle.cpi_sql_reads.proofs.headers.revision_published.Goals as goal

pub returns : goal.returns
returns c =
    let shown : c.map.result ≡ option_map (λ (h : Header). h.revision) (option_copied c.find-latest.result) =
    search rules in
    shown ∙ ap (option_map (λ (h : Header). h.revision)) (
    find_from_yields_List (λ (h : Header). nat_le h.publishes c.args.until && (h.month == c.args.month)) _ _
    c.find-latest.result c.find-latest.ensures.ran (YieldsList-from_rev_slice c.args.headers.now (cc))
    (λ x b q k. search (rules, tests))
    ∙ latest_passing (λ (h : Header). h.month) c.args.month (λ h. nat_le h.publishes c.args.until) c.args.headers.now
    )
