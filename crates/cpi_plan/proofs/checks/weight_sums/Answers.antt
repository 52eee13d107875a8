use Rattle.std.proofs.Common.{◌≡◌, ap, sym, ◌∙◌, ◌+◌, cond, arith, rules, ◌≤◌, ◌^◌}
use Rattle.cpi_codes.specs.CodeText.{is_code_at_or_below}
use Rattle.cpi_codes.specs.declared.codes.Code.{Code}
use Rattle.cpi_plan.specs.Sums.{sum_at}
use Rattle.cpi_plan.proofs.UnderLemmas.{weight_more, amount_fits}
use Rattle.cpi_plan.proofs.checks.weight_sums.Goals as goal

pub loop-weight-preserved : goal.loop-weight-preserved
loop-weight-preserved c =
    let weight = c.weight-item.result in
    let amount : c.from.result ≡ weight.parts = cc in
    let step : (q : Code) → sum_at c.add_path.new.sums q ≡ sum_at c.loop-weight.sums q + cond
    (is_code_at_or_below q weight.code) weight.parts 0 = λ q.
    c.in_ok-add_path.ensures q ∙ ap (λ n. sum_at c.loop-weight.sums q + cond (is_code_at_or_below q weight.code) n 0)
    amount in
    let bound : weight.parts ≤ 2 ^ 32 = search rules in
    record {
      so_far = λ q.
          step q
          ∙ ap (λ n. n + cond (is_code_at_or_below q weight.code) weight.parts 0) (c.loop-weight.invariant.so_far q)
          ∙ sym (weight_more q c.args.weights.now c.loop-weight.weight-index weight c.loop-weight-test.true
          c.weight-item.is);
      fits = λ q. omega (
        arith,
        step q,
        c.loop-weight.invariant.fits q,
        amount_fits (is_code_at_or_below q weight.code) weight.parts (2 ^ 32) bound,
      );
    }
