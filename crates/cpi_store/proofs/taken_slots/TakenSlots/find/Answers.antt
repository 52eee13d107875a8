use Rattle.std.proofs.Common.{ap, ◌∙◌}
use Rattle.std.specs.Ordering.{nat_cmp}
use Rattle.cpi_rows.specs.Held.{held_cmp}
use Rattle.cpi_rows.specs.Keyed.{row_at}
use Rattle.cpi_rows.proofs.ByKey.{lookup_row}
use Rattle.cpi_store.proofs.GivenRows.{given_total}
use Rattle.cpi_store.proofs.GivenSlots.{taken_key}
use Rattle.cpi_store.proofs.taken_slots.TakenSlots.find.Goals as goal

pub returns : goal.returns
returns c =
    c.get.ensures.value
    ∙ lookup_row given_total taken_key c.args.key.now c.self.inside.rows.entries c.self.invariant.under
    ∙ ap (row_at (held_cmp nat_cmp) taken_key c.args.key.now) c.self.view_is
