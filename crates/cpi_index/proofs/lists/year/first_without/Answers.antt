use Rattle.std.proofs.Common.{◌≡◌, ◌<◌, ℕ, length, get_or, Some, sym, ap, ◌∙◌}
use Rattle.cpi_plan.specs.declared.plan_rows.Weight.{Weight}
use Rattle.cpi_index.specs.Sample.{sample, is_none_of}
use Rattle.cpi_index.specs.Places.{IsFirstPlace, NoneBelow}
use Rattle.cpi_index.specs.Totals.{is_zero_at}
use Rattle.cpi_index.proofs.FirstCode.{none_by_place, first_by_place}
use Rattle.cpi_index.proofs.Sums.{zero_same}
use Rattle.cpi_index.proofs.lists.year.first_without.Goals as goal

pub returns-in-Some : goal.returns-in-Some
returns-in-Some c =
    let plan = c.args.plan.now in
    let bases = c.args.bases.now in
    let sums = c.in_ok-sums.sums.items in
    let same : (k : ℕ) (d : Weight) → k < length plan.weights →
    is_zero_at sums k ≡ is_none_of (sample plan (get_or plan.weights k d).code bases) = λ k d h.
    zero_same (sample plan (get_or plan.weights k d).code bases) (get_or sums k 1) (c.in_ok-sums.ensures.each k 1 d h)
    (c.in_ok-sums.ensures.least k 1 d h) in
    let first : IsFirstPlace (is_zero_at sums) (length sums) c.in-Some.place =
    rw c.deref.ensures.value at c.in-Some.ensures in
    let w = c.index-weights-place.result in
    let is : w ≡ get_or plan.weights c.in-Some.place w = c.index-weights-place.is
    ∙ ap (λ z. get_or z c.in-Some.place w) c.weights.ensures.value in
    ap (λ z. Some z.code) (sym c.index-weights-place.is)
    ∙ sym (first_by_place (is_zero_at sums) (λ e. is_none_of (sample plan e bases)) plan.weights same
    (length sums) c.in_ok-sums.ensures.count c.in-Some.place w first is)

pub returns : goal.returns
returns c =
    let plan = c.args.plan.now in
    let bases = c.args.bases.now in
    let sums = c.in_ok-sums.sums.items in
    let same : (k : ℕ) (d : Weight) → k < length plan.weights →
    is_zero_at sums k ≡ is_none_of (sample plan (get_or plan.weights k d).code bases) = λ k d h.
    zero_same (sample plan (get_or plan.weights k d).code bases) (get_or sums k 1) (c.in_ok-sums.ensures.each k 1 d h)
    (c.in_ok-sums.ensures.least k 1 d h) in
    let none : NoneBelow (is_zero_at sums) (length sums) = rw c.deref.ensures.value at c.in-None.ensures in
    sym (none_by_place (is_zero_at sums) (λ e. is_none_of (sample plan e bases)) plan.weights same
    (length sums) c.in_ok-sums.ensures.count none)
