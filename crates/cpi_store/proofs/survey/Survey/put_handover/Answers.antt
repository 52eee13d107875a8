use Rattle.std.proofs.Common.{ap, ◌∙◌}
use Rattle.cpi_rows.specs.Held.{held_by}
use Rattle.cpi_rows.specs.Keyed.{row_by_number}
use Rattle.cpi_store.specs.declared.given.Given.{Given}
use Rattle.cpi_store.specs.Holders.{all_assignments}
use Rattle.cpi_store.specs.Office.{Office}
use Rattle.cpi_store.proofs.Found.{known_holder}
use Rattle.cpi_store.proofs.OwnGiven.{nothing_given, slot_given}
use Rattle.cpi_store.proofs.survey.Survey.put_handover.Goals as goal

pub hand_over-requires-clause-known : goal.hand_over-requires-clause-known
hand_over-requires-clause-known c =
    known_holder c.args.handover.taker.number c.self.inside.holders.items
    (rw (ap (λ (o : Office). o.collectors) c.self.view_is) c.requires.taker)

pub hand_over-requires-clause-stands : goal.hand_over-requires-clause-stands
hand_over-requires-clause-stands c =
    let h = c.args.handover in
    slot_given c.self.inside.taken h.former.number h.ended.assignment.slot
    (all_assignments c.self.inside.holders.items)
    (rw (ap (λ (o : Office). o.assignments) c.self.view_is) c.requires.stands)

pub hand_over-requires-clause-new : goal.hand_over-requires-clause-new
hand_over-requires-clause-new c =
    let h = c.args.handover in
    let slot = h.assigned.assignment.slot in
    nothing_given c.self.inside.taken h.taker.number slot (all_assignments c.self.inside.holders.items)
    (ap (λ (o : Office). row_by_number (λ (g : Given). g.assignment.slot) slot (held_by h.taker.number o.assignments))
    c.self.view_is ∙ c.requires.new)
