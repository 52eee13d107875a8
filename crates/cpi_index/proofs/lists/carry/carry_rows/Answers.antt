use Rattle.std.proofs.Common.{arith, ◌≡◌, ℕ, ◌<◌, length, get_or, ap, ◌∙◌, Some}
use Rattle.cpi_plan.specs.declared.plan_rows.Weight.{Weight}
use Rattle.cpi_index.specs.declared.lists.month.PlaceFault.{PlaceFault}
use Rattle.cpi_index.specs.declared.lists.month.PlaceFault.TheVariants as place
use Rattle.cpi_index.specs.declared.fault.IndexFault.TheVariants.{NoSample, NoMatch, OutOfRange}
use Rattle.cpi_index.specs.Places.{rows_with_places, IsPlaceFault, AreCarried}
use Rattle.cpi_index.proofs.Bridge.{placed_few, placed_below, carried_is}
use Rattle.cpi_index.proofs.Faults.{AreListed, no_sample_is, no_match_is, out_of_range_is, no_fault_is}
use Rattle.cpi_index.proofs.lists.carry.carry_rows.Goals as goal
use Rattle.cpi_index.proofs.lists.carry.carry_rows.Goals.{After-deref-2}

-- the placed rows are the month's rows, each with the place of its aggregate
rows_are_placed : (c : After-deref-2) → c.deref.result.now ≡ rows_with_places c.args.plan.now c.args.rows.now
rows_are_placed c = c.deref.ensures.value ∙ c.in-Ok.ensures

-- there are as many marks as weights
as_many_marks_as_weights : (c : After-deref-2) →
    length c.in-Ok-unchanged_of.unchanged.items ≡ length c.args.plan.now.weights
as_many_marks_as_weights c = c.in-Ok-unchanged_of.ensures.count ∙ ap length c.weights-weights.ensures.value

-- the mark of a weight says whether its aggregate is listed
marks_are_listed : (c : After-deref-2) →
    AreListed c.args.plan.now c.args.carry.now c.in-Ok-unchanged_of.unchanged.items
marks_are_listed c = rw c.weights-weights.ensures.value at c.in-Ok-unchanged_of.ensures.each

-- a fault of the placed rows is one of the month's rows
fault_is_of_rows : (c : After-deref-2) (f : PlaceFault) → IsPlaceFault c.deref.result.now c.deref-2.result.now f →
    IsPlaceFault (rows_with_places c.args.plan.now c.args.rows.now) c.in-Ok-unchanged_of.unchanged.items f
fault_is_of_rows c f h = rw (rows_are_placed c, c.deref-2.ensures.value) at h

-- a weight at a place of the list that was read is the plan's
weight_is_of_plan : (c : After-deref-2) (k : ℕ) (w : Weight) → w ≡ get_or c.weights-weights.result.now k w →
    w ≡ get_or c.args.plan.now.weights k w
weight_is_of_plan c k w is = is ∙ ap (λ z. get_or z k w) c.weights-weights.ensures.value

pub carry_placed-requires-clause-few : goal.carry_placed-requires-clause-few
carry_placed-requires-clause-few c =
    let placed = (goal.at.carry_placed-requires-clause-few c).After-deref-2 in
    omega (arith, ap length (rows_are_placed placed), placed_few c.args.plan.now c.args.rows.now, c.requires)

pub carry_placed-requires-clause-placed : goal.carry_placed-requires-clause-placed
carry_placed-requires-clause-placed c =
    let placed = (goal.at.carry_placed-requires-clause-placed c).After-deref-2 in
    let count = ap length c.deref-2.ensures.value ∙ as_many_marks_as_weights placed in
    λ k d h.
    let below : (get_or (rows_with_places c.args.plan.now c.args.rows.now) k d).place < length c.args.plan.now.weights =
    placed_below c.args.plan.now c.args.rows.now k d (omega (arith, h, ap length (rows_are_placed placed))) in
    omega (arith, below, count, ap (λ z. (get_or z k d).place) (rows_are_placed placed))

pub returns-in-Ok-carry_placed : goal.returns-in-Ok-carry_placed
returns-in-Ok-carry_placed c =
    let plan = c.args.plan.now in
    let rows = c.args.rows.now in
    let marks = c.in-Ok-unchanged_of.unchanged.items in
    let placed = (goal.at.returns-in-Ok-carry_placed c).After-deref-2 in
    let done : AreCarried (rows_with_places plan rows) marks c.in-Ok-carry_placed.carried.items =
    rw (rows_are_placed placed, c.deref-2.ensures.value) at c.in-Ok-carry_placed.ensures in (
      no_fault_is plan c.weights-weights.ensures.kept.weights_in_order c.args.carry.now marks
          (as_many_marks_as_weights placed) (marks_are_listed placed) rows done.0 done.1 done.2,
      done.3 ∙ carried_is plan c.weights-weights.ensures.kept rows,
    )

pub returns-in-NoSample : goal.returns-in-NoSample
returns-in-NoSample c =
    let placed = (goal.at.returns-in-NoSample c).After-deref-2 in
    let k = c.in-NoSample.place in
    let weight = c.index-weights-place in
    λ _. no_sample_is c.args.plan.now c.weights-weights.ensures.kept.weights_in_order c.args.carry.now
    c.in-Ok-unchanged_of.unchanged.items (as_many_marks_as_weights placed) (marks_are_listed placed) c.args.rows.now k
    weight.result (fault_is_of_rows placed (place.NoSample k) (rw c.in-NoSample.is at c.in-Err.ensures))
    (weight_is_of_plan placed k weight.result weight.is) ∙ ap (λ z. Some (NoSample z.code)) weight.is

pub returns-in-NoMatch : goal.returns-in-NoMatch
returns-in-NoMatch c =
    let placed = (goal.at.returns-in-NoMatch c).After-deref-2 in
    let k = c.in-NoMatch.place in
    let weight = c.index-weights-place-in-NoMatch in
    λ _. no_match_is c.args.plan.now c.weights-weights.ensures.kept.weights_in_order c.args.carry.now
    c.in-Ok-unchanged_of.unchanged.items (as_many_marks_as_weights placed) (marks_are_listed placed) c.args.rows.now k
    weight.result (fault_is_of_rows placed (place.NoMatch k) (rw c.in-NoMatch.is at c.in-Err.ensures))
    (weight_is_of_plan placed k weight.result weight.is) ∙ ap (λ z. Some (NoMatch z.code)) weight.is

pub returns-in-OutOfRange : goal.returns-in-OutOfRange
returns-in-OutOfRange c =
    let placed = (goal.at.returns-in-OutOfRange c).After-deref-2 in
    let k = c.in-OutOfRange.place in
    let weight = c.index-weights-place-in-OutOfRange in
    λ _. out_of_range_is c.args.plan.now c.weights-weights.ensures.kept.weights_in_order c.args.carry.now
    c.in-Ok-unchanged_of.unchanged.items (as_many_marks_as_weights placed) (marks_are_listed placed) c.args.rows.now k
    weight.result (fault_is_of_rows placed (place.OutOfRange k) (rw c.in-OutOfRange.is at c.in-Err.ensures))
    (weight_is_of_plan placed k weight.result weight.is) ∙ ap (λ z. Some (OutOfRange z.code)) weight.is
