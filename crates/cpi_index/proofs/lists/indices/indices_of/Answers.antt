use Rattle.std.proofs.Common.{arith, rules, ◌≡◌, ◌<◌, ◌≤◌, ◌++◌, ◌∷◌, [], ℕ, false, not, length, get_or, take, map}
use Rattle.std.proofs.Common.{Some, sym, ap, ◌∙◌, below_more, option_map}
use Rattle.std.proofs.lemmas.List.{map_more, take_all}
use Rattle.std.proofs.lemmas.Bool.Decides.{nat_tests}
use Rattle.cpi_codes.specs.declared.codes.Code.{Code}
use Rattle.cpi_plan.specs.declared.plan_rows.Weight.{Weight}
use Rattle.cpi_index.specs.Sample.{sample, is_none_of}
use Rattle.cpi_index.specs.Aggregate.{dutot_index, is_index}
use Rattle.cpi_index.specs.Indices.{total_of, elementary_index, index_row, is_index_out}
use Rattle.cpi_index.specs.declared.fault.IndexFault.TheVariants.{OutOfRange}
use Rattle.cpi_index.specs.declared.index.NodeIndex.{NodeIndex}
use Rattle.cpi_index.proofs.FirstCode.{none_first, none_passes, first_at}
use Rattle.cpi_index.proofs.Outside.{outside, within}
use Rattle.cpi_index.proofs.lists.indices.indices_of.Goals as goal

abbrev row_with : Code → ℕ → NodeIndex
row_with code index = record { code = code; index = index }

pub dutot-requires-clause-base : goal.dutot-requires-clause-base
dutot-requires-clause-base c =
    let plan = c.args.plan.now in
    let i = c.loop-place.place in
    let w = c.index-weights-place.result in
    let h : i < length plan.weights = omega (arith, c.loop-place-test.true, ap length c.weights-weights.ensures.value)
    in
    let own = sample plan (get_or plan.weights i w).code c.args.bases.now in
    let some : is_none_of own ≡ false = none_first (λ e. is_none_of (sample plan e c.args.bases.now)) plan.weights
    c.requires.samples i w h in
    let one : 1 ≤ length own = grind (arith, nat_tests) in
    let read : c.index-in-loop-place.result.now ≡ get_or c.in-Ok-sums_of.base.items i c.index-in-loop-place.result.now
    = search rules in
    omega (arith, read, one, c.in-Ok-sums_of.ensures.least i c.index-in-loop-place.result.now w h)

pub returns-in_default-dutot : goal.returns-in_default-dutot
returns-in_default-dutot c =
    let plan = c.args.plan.now in
    let bases = c.args.bases.now in
    let carried = c.args.carried.now in
    let i = c.loop-place.place in
    let w = c.index-weights-place.result in
    let h : i < length plan.weights = omega (arith, c.loop-place-test.true, ap length c.weights-weights.ensures.value)
    in
    let now : c.index.result.now ≡ get_or c.in-Ok.current.items i c.index.result.now = search rules in
    let base : c.index-in-loop-place.result.now ≡ get_or c.in-Ok-sums_of.base.items i c.index-in-loop-place.result.now
    = search rules in
    let value : dutot_index c.index.result.now c.index-in-loop-place.result.now ≡ elementary_index plan bases carried
    (get_or plan.weights i w).code =
    ap (λ z. dutot_index z c.index-in-loop-place.result.now) (now ∙ c.in-Ok.ensures.each i c.index.result.now w h)
    ∙ ap (λ z. dutot_index (total_of plan (get_or plan.weights i w).code carried) z)
    (base ∙ c.in-Ok-sums_of.ensures.each i c.index-in-loop-place.result.now w h) in
    let inside : (k : ℕ) (d : Weight) → k < i → is_index_out plan bases carried
    (get_or plan.weights k d).code ≡ false = rw c.weights-weights.ensures.value at
    c.loop-place.invariant.in_limits in
    λ _. ap (λ o. option_map OutOfRange o) (first_at (is_index_out plan bases carried) plan.weights i w h
    (ap (λ z. not (is_index z)) (sym value) ∙ outside _ (λ t. c.in_default-dutot.ensures t)) inside)
    ∙ ap (λ z. Some (OutOfRange (get_or z i w).code)) (sym c.weights-weights.ensures.value)

pub loop-place-preserved : goal.loop-place-preserved
loop-place-preserved c =
    let plan = c.args.plan.now in
    let bases = c.args.bases.now in
    let carried = c.args.carried.now in
    let i = c.loop-place.place in
    let w = c.index-weights-place.result in
    let ws = c.weights-weights.result.now in
    let f = index_row plan bases carried in
    let h : i < length plan.weights = omega (arith, c.loop-place-test.true, ap length c.weights-weights.ensures.value)
    in
    let now : c.index.result.now ≡ get_or c.in-Ok.current.items i c.index.result.now = search rules in
    let base : c.index-in-loop-place.result.now ≡ get_or c.in-Ok-sums_of.base.items i c.index-in-loop-place.result.now
    = search rules in
    let value : (d : Weight) → dutot_index c.index.result.now c.index-in-loop-place.result.now ≡ elementary_index
    plan bases
    carried (get_or ws i d).code = λ d.
    ap (λ z. dutot_index z c.index-in-loop-place.result.now) (now ∙ c.in-Ok.ensures.each i c.index.result.now d h)
    ∙ ap (λ z. dutot_index (total_of plan (get_or plan.weights i d).code carried) z)
    (base ∙ c.in-Ok-sums_of.ensures.each i c.index-in-loop-place.result.now d h)
    ∙ ap (λ z. elementary_index plan bases carried (get_or z i d).code) (sym c.weights-weights.ensures.value) in
    let row = row_with w.code c.in-Some.index in
    let is : row ≡ f (get_or ws i w) =
    ap (row_with w.code) (c.in-Some.ensures.1 ∙ value w)
    ∙ ap (λ z. row_with z.code (elementary_index plan bases carried (get_or ws i w).code))
    c.index-weights-place.is in
    let pushed : c.push.new.self.items ≡ c.loop-place.indices.items ++ row ∷ [] = search rules in
    record {
      so_far = pushed ∙ ap (λ z. z ++ row ∷ []) c.loop-place.invariant.so_far
          ∙ ap (λ z. map f (take i ws) ++ z ∷ []) is ∙ sym (map_more f ws i w c.loop-place-test.true);
      in_limits = λ k d m. below_more (λ k. (d : Weight) →
          is_index_out plan bases carried (get_or ws k d).code ≡ false) i
          (λ k m d. c.loop-place.invariant.in_limits k d m)
          (λ d. ap (λ z. not (is_index z)) (sym (value d)) ∙ within _ c.in-Some.ensures.0)
          k m d;
    }

pub returns : goal.returns
returns c =
    let plan = c.args.plan.now in
    let bases = c.args.bases.now in
    let carried = c.args.carried.now in
    let count : length plan.weights ≤ c.loop-place.place =
    omega (arith, c.loop-place-test.false, ap length c.weights-weights.ensures.value) in
    let inside : (k : ℕ) (d : Weight) → k < c.loop-place.place →
    is_index_out plan bases carried (get_or plan.weights k d).code ≡ false =
    rw c.weights-weights.ensures.value at c.loop-place.invariant.in_limits in (
      ap (λ o. option_map OutOfRange o) (none_passes (is_index_out plan bases carried) plan.weights
          (λ k d l. inside k d (omega (arith, l, count)))),
      c.loop-place.invariant.so_far ∙ ap (λ z. map (index_row plan bases carried) (take c.loop-place.place z))
          c.weights-weights.ensures.value ∙ ap (map (index_row plan bases carried))
          (take_all c.loop-place.place plan.weights count),
    )
