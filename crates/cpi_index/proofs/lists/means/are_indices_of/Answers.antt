use Rattle.std.proofs.Common.{◌≡◌, true, false, length, get_or, refl, sym, ap, ◌∙◌, arith, below_more}
use Rattle.std.proofs.lemmas.List.{get_or_read_under}
use Rattle.cpi_codes.specs.CodeOrder.{is_same_code}
use Rattle.cpi_plan.specs.declared.plan_rows.Weight.{Weight}
use Rattle.cpi_index.specs.declared.index.NodeIndex.{NodeIndex}
use Rattle.cpi_index.proofs.MeanLemmas.{other_count, differ_at, same_all}
use Rattle.cpi_index.proofs.lists.means.are_indices_of.Goals as goal

pub returns-then-weights-elementary : goal.returns-then-weights-elementary
returns-then-weights-elementary c = sym (other_count c.args.weights.now c.args.elementary.now
    (λ e. absurd (omega (arith, e))))

pub returns-then-not-is_same : goal.returns-then-not-is_same
returns-then-not-is_same c =
    let apart : is_same_code c.index-weights-i.result.code c.index-elementary-i.result.code ≡ false = cc in
    sym (differ_at c.args.weights.now c.args.elementary.now c.loop-i.i c.index-weights-i.result
    c.index-elementary-i.result (omega arith) (omega arith) c.index-weights-i.is c.index-elementary-i.is apart)

pub loop-i-preserved : goal.loop-i-preserved
loop-i-preserved c =
    let i = c.loop-i.i in
    let w = c.index-weights-i.result in
    let x = c.index-elementary-i.result in
    let here : is_same_code w.code x.code ≡ true = cc in
    let left : (d : Weight) → get_or c.args.weights.now i d ≡ w =
    λ d. sym (get_or_read_under c.args.weights.now i (length c.args.weights.now) w d c.index-weights-i.is
    (omega arith) refl) in
    let right : (e : NodeIndex) → get_or c.args.elementary.now i e ≡ x =
    λ e. sym (get_or_read_under c.args.elementary.now i (length c.args.elementary.now) x e c.index-elementary-i.is
    (omega arith) refl) in
    λ k d e h. below_more (λ k. (d : Weight) (e : NodeIndex) →
    is_same_code (get_or c.args.weights.now k d).code (get_or c.args.elementary.now k e).code ≡ true) i
    (λ k h d e. c.loop-i.invariant k d e h)
    (λ d e. ap (λ z. is_same_code z.code (get_or c.args.elementary.now i e).code) (left d)
    ∙ ap (λ z. is_same_code w.code z.code) (right e) ∙ here)
    k h d e

pub returns : goal.returns
returns c = sym (same_all c.args.weights.now c.args.elementary.now (omega arith)
    (λ k d e h. c.loop-i.invariant k d e (omega arith)))
