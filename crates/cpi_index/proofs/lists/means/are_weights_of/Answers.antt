use Rattle.std.proofs.Common.{◌≡◌, true, false, length, get_or, refl, sym, ap, ◌∙◌, arith, below_more}
use Rattle.std.proofs.lemmas.List.{get_or_read_under}
use Rattle.cpi_codes.specs.CodeOrder.{is_same_code}
use Rattle.cpi_plan.specs.declared.plan_rows.Weight.{Weight}
use Rattle.cpi_index.proofs.WeightLemmas.{other_weights, differ_weights, same_weights}
use Rattle.cpi_index.proofs.lists.means.are_weights_of.Goals as goal

pub returns-then-own-weights : goal.returns-then-own-weights
returns-then-own-weights c = sym (other_weights c.args.own.now c.args.weights.now (λ e. absurd (omega (arith, e))))

pub returns-then-not-is_same : goal.returns-then-not-is_same
returns-then-not-is_same c =
    let apart : is_same_code c.index-own-i.result.code c.index-weights-i.result.code ≡ false = cc in
    sym (differ_weights c.args.own.now c.args.weights.now c.loop-i.i c.index-own-i.result c.index-weights-i.result
    (omega arith) (omega arith) c.index-own-i.is c.index-weights-i.is apart)

pub loop-i-preserved : goal.loop-i-preserved
loop-i-preserved c =
    let i = c.loop-i.i in
    let w = c.index-own-i.result in
    let x = c.index-weights-i.result in
    let here : is_same_code w.code x.code ≡ true = cc in
    let left : (d : Weight) → get_or c.args.own.now i d ≡ w =
    λ d. sym (get_or_read_under c.args.own.now i (length c.args.own.now) w d c.index-own-i.is (omega arith) refl) in
    let right : (e : Weight) → get_or c.args.weights.now i e ≡ x =
    λ e. sym (get_or_read_under c.args.weights.now i (length c.args.weights.now) x e c.index-weights-i.is
    (omega arith) refl) in
    λ k d e h. below_more (λ k. (d : Weight) (e : Weight) →
    is_same_code (get_or c.args.own.now k d).code (get_or c.args.weights.now k e).code ≡ true) i
    (λ k h d e. c.loop-i.invariant k d e h)
    (λ d e. ap (λ z. is_same_code z.code (get_or c.args.weights.now i e).code) (left d)
    ∙ ap (λ z. is_same_code w.code z.code) (right e) ∙ here)
    k h d e

pub returns : goal.returns
returns c = sym (same_weights c.args.own.now c.args.weights.now (omega arith)
    (λ k d e h. c.loop-i.invariant k d e (omega arith)))
