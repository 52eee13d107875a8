use Rattle.std.proofs.Common.{◌≡◌, ◌+◌, ◌*◌, ◌≤◌, take, sym, ap, ◌∙◌, cond, arith}
use Rattle.std.proofs.lemmas.Nat.{mul-le}
use Rattle.cpi_codes.specs.CodeText.{is_code_at_or_below}
use Rattle.cpi_codes.specs.declared.codes.Code.{Code}
use Rattle.cpi_plan.specs.Sums.{sum_at, weight_under}
use Rattle.cpi_plan.proofs.UnderLemmas.{weight_more, amount_fits}
use Rattle.cpi_index.specs.Means.{index_of, weighted_under}
use Rattle.cpi_index.proofs.MeanLemmas.{same_count, index_at, weighted_more, product_least, product_most, least_more}
use Rattle.cpi_index.proofs.MeanLemmas.{most_more}
use Rattle.cpi_index.proofs.lists.means.weighted_sums.Goals as goal
use Rattle.cpi_index.specs.declared.limits.TheConstants.{MOST_INDEX, MOST_WEIGHT_IN_USE}

pub bounds-elementary-i : goal.bounds-elementary-i
bounds-elementary-i c = omega (
  arith,
  c.loop-i-test.true,
  same_count c.args.weights.now c.args.elementary.now c.requires.each,
)

pub bounds-elementary-i-in-loop-i : goal.bounds-elementary-i-in-loop-i
bounds-elementary-i-in-loop-i c = omega (
  arith,
  c.loop-i-test.true,
  same_count c.args.weights.now c.args.elementary.now c.requires.each,
)

pub loop-i-preserved : goal.loop-i-preserved
loop-i-preserved c =
    let ws = c.args.weights.now in
    let xs = c.args.elementary.now in
    let i = c.loop-i.i in
    let w = c.index-weights-i.result in
    let n = c.millionths-index.result in
    let h = c.loop-i-test.true in
    let is = c.index-weights-i.is in
    let inv = c.loop-i.invariant in
    let old = c.loop-i.sums in
    let new = c.add_path.new.sums in
    let amount : c.from.result * c.from-in-loop-i.result ≡ w.parts * n = cc in
    let parts : w.parts ≤ MOST_WEIGHT_IN_USE = omega (arith, c.parts.ensures.value, c.parts.ensures.range.1) in
    let product : w.parts * n ≤ MOST_WEIGHT_IN_USE * MOST_INDEX =
    mul-le w.parts n MOST_WEIGHT_IN_USE MOST_INDEX parts c.millionths-index.ensures.range.1 in
    let step : (q : Code) → sum_at new q ≡ sum_at old q + cond (is_code_at_or_below q w.code) (w.parts * n) 0 = λ q.
    c.in_ok-add_path.ensures q
    ∙ ap (λ z. sum_at old q + cond (is_code_at_or_below q z) (c.from.result * c.from-in-loop-i.result) 0) c.code.ensures
    ∙ ap (λ m. sum_at old q + cond (is_code_at_or_below q w.code) m 0) amount in
    let own : n ≡ index_of xs w.code =
    c.millionths-index.ensures.value ∙ sym (index_at ws xs i w c.index-elementary-i.result c.requires.order
    c.requires.each h) ∙ ap (λ z. index_of xs z.code) (sym is) in
    record {
      so_far = λ q.
          step q
          ∙ ap (λ m. m + cond (is_code_at_or_below q w.code) (w.parts * n) 0) (inv.so_far q)
          ∙ ap (λ m. weighted_under (index_of xs) q (take i ws) + cond (is_code_at_or_below q w.code)
          (w.parts * m) 0) own
          ∙ sym (weighted_more xs q ws i w h is);
      least = λ q. least_more (is_code_at_or_below q w.code) (weight_under q (take i ws))
          (weight_under q (take (i + 1) ws)) (sum_at old q) (sum_at new q) w.parts (w.parts * n)
          (weight_more q ws i w h is) (step q) (inv.least q)
          (product_least w.parts n c.millionths-index.ensures.range.0);
      most = λ q. most_more (is_code_at_or_below q w.code) (weight_under q (take i ws))
          (weight_under q (take (i + 1) ws))
          (sum_at old q) (sum_at new q) w.parts (w.parts * n) (weight_more q ws i w h is) (step q) (inv.most q)
          (product_most w.parts n c.millionths-index.ensures.range.1);
      room = λ q. omega (
        arith,
        step q,
        amount_fits (is_code_at_or_below q w.code) (w.parts * n)
            (MOST_WEIGHT_IN_USE * MOST_INDEX) product,
        inv.room q,
      );
    }
