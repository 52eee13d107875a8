use Rattle.std.proofs.Common.{◌≡◌, ap, ◌∙◌, rules, not}
use Rattle.std.specs.Prelude.{is_none}
use Rattle.std.specs.Option.{option_copied}
use Rattle.cpi_codes.specs.CodeOrder.{code_cmp}
use Rattle.cpi_plan.proofs.RowLemmas.{found, none_not_some}
use Rattle.cpi_plan.proofs.checks.is_unplaced.Goals as goal

pub returns : goal.returns
returns c =
    let tested : c.is_none.result ≡ is_none (option_copied c.find_row.result) = search rules in
    tested ∙ ap is_none c.find_row.ensures ∙ none_not_some _
    ∙ ap not (found code_cmp (λ w. w.code) c.args.place.now.aggregate c.args.weights.now)
