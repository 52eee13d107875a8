use Rattle.std.proofs.Common.{rules, tests, ◌==◌, ◌∙◌}
use Rattle.std.proofs.lemmas.Iterator.Adapters.{YieldsList-from_rev_slice}
use Rattle.std.proofs.lemmas.Iterator.Search.{find_from_yields_List}
use Rattle.cpi_sql_rows.specs.declared.release_rows.Header.{Header}
use Rattle.cpi_sql_reads.proofs.LatestHeaders.{latest_last}
use Rattle.cpi_sql_reads.proofs.headers.header_of.Goals as goal

pub returns : goal.returns
returns c =
    find_from_yields_List (λ (h : Header). h.month == c.args.month) _ _ c.find.result c.find.ensures.ran
    (YieldsList-from_rev_slice c.args.headers.now (cc)) (λ x b q k. search (rules, tests))
    ∙ latest_last (λ (h : Header). h.month) c.args.month c.args.headers.now
