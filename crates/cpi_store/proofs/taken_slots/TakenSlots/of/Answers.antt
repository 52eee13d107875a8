use Rattle.std.proofs.Common.{ap, ◌∙◌, arith}
use Rattle.std.specs.Ordering.{nat_cmp}
use Rattle.cpi_rows.specs.Held.{held_cmp}
use Rattle.cpi_rows.specs.Keyed.{with_row}
use Rattle.cpi_store.proofs.GivenRows.{given_total}
use Rattle.cpi_store.proofs.GivenSlots.{taken_key}
use Rattle.cpi_store.proofs.TakenOut.{put_next}
use Rattle.cpi_store.proofs.taken_slots.TakenSlots.of.Goals as goal

pub loop-over-preserved : goal.loop-over-preserved
loop-over-preserved c =
    c.in_ok-put.ensures.ok
    ∙ ap (with_row (held_cmp nat_cmp) taken_key c.over-item.result) c.loop-over.invariant
    ∙ put_next given_total taken_key c.args.rows.now c.loop-over.over-index c.over-item.result (omega arith)
    c.over-item.is c.requires
