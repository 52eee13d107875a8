use Rattle.std.proofs.Common.{arith, length, ap, ◌∙◌}
use Rattle.cpi_index.specs.Totals.{total_at}
use Rattle.cpi_index.proofs.Sums.{total_is, total_least}
use Rattle.cpi_index.proofs.lists.totals.sums_of.Goals as goal

pub returns-clause-each : goal.returns-clause-each
returns-clause-each c = λ k d w h.
    c.in_ok-sums.ensures.each k d (omega (arith, h, ap length c.weights-weights.ensures.value))
    ∙ ap (total_at k) c.deref.ensures.value
    ∙ total_is c.args.plan.now c.weights-weights.ensures.kept.weights_in_order k w h c.args.carried.now
    c.in_ok-entries.entries.items c.in_ok-entries.ensures.pairs

pub returns-clause-least : goal.returns-clause-least
returns-clause-least c = λ k d w h.
    let sum = c.in_ok-sums.ensures.each k d (omega (arith, h, ap length c.weights-weights.ensures.value))
    ∙ ap (total_at k) c.deref.ensures.value in
    rw sum (total_least c.args.plan.now c.weights-weights.ensures.kept.weights_in_order k w h c.args.carried.now
    c.in_ok-entries.entries.items c.in_ok-entries.ensures.pairs)
