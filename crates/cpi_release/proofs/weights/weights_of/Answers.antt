use Rattle.std.proofs.Common.{arith, map, sym, ap, ◌∙◌}
use Rattle.cpi_index.specs.Weights.{are_weights_in}
use Rattle.cpi_index.proofs.WeightLemmas.{are_own}
use Rattle.cpi_release.proofs.InUse.{are_of, are_moved_in_use}
use Rattle.cpi_release.proofs.weights.weights_of.Goals as goal

pub returns-in_default-clause-codes : goal.returns-in_default-clause-codes
returns-in_default-clause-codes g c = ap (are_weights_in c.args.plan.now.weights) c.in-Ok.ensures
    ∙ are_own c.args.plan.now.weights

pub returns-in-Ok-move_weights-clause-exact : goal.returns-in-Ok-move_weights-clause-exact
returns-in-Ok-move_weights-clause-exact g c = λ clean sound late.
    let used = are_moved_in_use c.args.plan.now
    (g.G.Groups.sources (g.G.Groups.holds c.args.groups.now).held).releases c.args.month c.in-Some-Some.reference
    c.in-Some-Some.link (sym c.reference.ensures.value ∙ c.in-Some-Some.is-0)
    (omega (arith, late, c.in-Some-Some.ensures'.1)) c.deref.result.now
    (c.deref.ensures.value ∙ c.in_ok-rows.ensures.exact clean sound) in
    let moved = c.in-Ok-move_weights.ensures in (sym used.0 ∙ moved.0, moved.1 ∙ used.1)

pub returns-in-Ok-move_weights-clause-codes : goal.returns-in-Ok-move_weights-clause-codes
returns-in-Ok-move_weights-clause-codes g c =
    are_of c.args.plan.now.weights c.deref.result.now c.in-Ok-move_weights.weights.items
    (ap (map (λ r. r.weight)) c.deref.ensures.value ∙ c.in_ok-rows.ensures.weights)
    c.in-Ok-move_weights.ensures.1

pub returns-clause-exact : goal.returns-clause-exact
returns-clause-exact g c = λ clean sound late other.
    let used = are_moved_in_use c.args.plan.now
    (g.G.Groups.sources (g.G.Groups.holds c.args.groups.now).held).releases c.args.month c.in-Some-Some.reference
    c.in-Some-Some.link (sym c.reference.ensures.value ∙ c.in-Some-Some.is-0)
    (omega (arith, late, c.in-Some-Some.ensures'.1)) c.deref.result.now
    (c.deref.ensures.value ∙ c.in_ok-rows.ensures.exact clean sound) in
    sym used.0 ∙ c.in-Err.ensures other
