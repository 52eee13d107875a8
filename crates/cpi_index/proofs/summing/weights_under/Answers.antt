use Rattle.std.proofs.Common.{◌≡◌, ◌+◌, ◌≤◌, take, false, sym, ap, ◌∙◌, cond, arith}
use Rattle.std.proofs.lemmas.List.{take_all}
use Rattle.cpi_codes.specs.CodeText.{is_code_at_or_below}
use Rattle.cpi_codes.specs.declared.codes.Code.{Code}
use Rattle.cpi_plan.specs.Plan.{has_zero_weight}
use Rattle.cpi_plan.specs.Sums.{sum_at, weight_under}
use Rattle.cpi_plan.proofs.UnderLemmas.{weighs, weight_more, amount_fits}
use Rattle.cpi_index.proofs.WeightLemmas.{positive_more}
use Rattle.cpi_index.proofs.summing.weights_under.Goals as goal
use Rattle.cpi_index.specs.declared.limits.TheConstants.{MOST_WEIGHT_IN_USE}

pub loop-weight-preserved : goal.loop-weight-preserved
loop-weight-preserved c =
    let ws = c.args.weights.now in
    let i = c.loop-weight.weight-index in
    let w = c.weight-item.result in
    let h = c.loop-weight-test.true in
    let is = c.weight-item.is in
    let inv = c.loop-weight.invariant in
    let old = c.loop-weight.sums in
    let new = c.add_path.new.sums in
    let amount : c.from.result ≡ w.parts = cc in
    let step : (q : Code) → sum_at new q ≡ sum_at old q + cond (is_code_at_or_below q w.code) w.parts 0 = λ q.
    c.in_ok-add_path.ensures q
    ∙ ap (λ z. sum_at old q + cond (is_code_at_or_below q z) c.from.result 0) c.code.ensures
    ∙ ap (λ m. sum_at old q + cond (is_code_at_or_below q w.code) m 0) amount in
    let least : 1 ≤ w.parts = omega (arith, c.parts.ensures.value, c.parts.ensures.range.0) in
    let most : w.parts ≤ MOST_WEIGHT_IN_USE = omega (arith, c.parts.ensures.value, c.parts.ensures.range.1) in
    record {
      so_far = λ q.
          step q
          ∙ ap (λ m. m + cond (is_code_at_or_below q w.code) w.parts 0) (inv.so_far q)
          ∙ sym (weight_more q ws i w h is);
      positive = positive_more ws i w h is least inv.positive;
      most = λ q. omega (
        arith,
        step q,
        amount_fits (is_code_at_or_below q w.code) w.parts MOST_WEIGHT_IN_USE most,
        inv.most q,
      );
    }

pub returns-clause-least : goal.returns-clause-least
returns-clause-least c = λ q node.
    let ws = c.args.weights.now in
    let all : take c.loop-weight.weight-index ws ≡ ws =
    take_all c.loop-weight.weight-index ws c.loop-weight-test.false in
    let positive : has_zero_weight ws ≡ false = sym (ap has_zero_weight all) ∙ c.loop-weight.invariant.positive in
    omega (arith, c.loop-weight.invariant.so_far q, ap (weight_under q) all, (weighs q ws positive).1 node)
