use Rattle.std.proofs.Common.{rules, ◌≡◌, ap, ◌∙◌}
use Rattle.cpi_plan.specs.Stored.{plan_from}
use Rattle.cpi_sql_rows.specs.Lists.{reference_of}
use Rattle.cpi_sql_rows.proofs.YearLemmas.{stored_is}
use Rattle.cpi_sql_reads.proofs.years.made.Goals as goal

pub returns : goal.returns
returns c =
    let first : c.map-reference.result ≡ reference_of c.args.references.now = search rules in
    stored_is _ _ c.know_plan.ensures
    (c.in-Some.ensures ∙ ap (plan_from c.args.year c.args.nodes.now c.args.places.now) first)
