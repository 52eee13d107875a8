use Rattle.std.proofs.Common.{◌≡◌, ap, sym, ◌∙◌, rules, subst, Some, None, false, ◌==◌}
use Rattle.std.specs.Prelude.{is_some}
use Rattle.cpi_codes.specs.CodeOrder.{code_cmp}
use Rattle.cpi_rows.specs.Keyed.{row_at}
use Rattle.cpi_rows.proofs.Truth.{same_of_equal}
use Rattle.cpi_plan.specs.Plan.{IsPlan}
use Rattle.cpi_plan.specs.Sums.{weight_under, is_node}
use Rattle.cpi_plan.proofs.RowLemmas.{found, found_has}
use Rattle.cpi_plan.proofs.UnderLemmas.{same_weight}
use Rattle.cpi_plan.proofs.plans.YearPlan.weight.Goals as goal

pub returns-in_err-find_row : goal.returns-in_err-find_row
returns-in_err-find_row c =
    let plan = c.args.self.now in
    let valid : IsPlan plan = subst IsPlan c.self.view_is c.self.invariant in
    let none : row_at code_cmp (λ n. n.code) c.args.code.now plan.nodes ≡ None = search rules in
    let no_node : is_node plan.weights c.args.code.now ≡ false = valid.complete c.args.code.now
    ∙ sym (found code_cmp (λ n. n.code) c.args.code.now plan.nodes) ∙ ap is_some none in
    search rules

pub returns : goal.returns
returns c =
    let plan = c.args.self.now in
    let valid : IsPlan plan = subst IsPlan c.self.view_is c.self.invariant in
    let code = c.args.code.now in
    let node = c.in_ok-find_row.field-0.now in
    let some : row_at code_cmp (λ n. n.code) code plan.nodes ≡ Some node = search rules in
    let has = found_has code_cmp (λ n. n.code) code (λ n. n.weight == weight_under n.code plan.weights) plan.nodes
    node some valid.weighed in (
      valid.complete code ∙ sym (found code_cmp (λ n. n.code) code plan.nodes) ∙ ap is_some some,
      same_of_equal node.weight (weight_under node.code plan.weights) has.1
          ∙ same_weight node.code code has.0 plan.weights,
    )
