use Rattle.std.proofs.Common.{ap, ◌∙◌}
use Rattle.cpi_rows.specs.Held.{held_by}
use Rattle.cpi_rows.specs.Keyed.{row_by_number}
use Rattle.cpi_store.specs.declared.given.Given.{Given}
use Rattle.std.specs.Prelude.{option_map}
use Rattle.cpi_store.specs.Holders.{Kept}
use Rattle.cpi_store.specs.Office.{given_until}
use Rattle.cpi_store.proofs.OwnGiven.{some_mapped}
use Rattle.cpi_store.proofs.vec_book.VecBookBook.put_handover.Goals as goal

pub put_handover-requires-clause-stands : goal.put_handover-requires-clause-stands
put_handover-requires-clause-stands c =
    let h = c.args.handover in
    let until = given_until h.ended.assignment.last_month in
    some_mapped until h.ended (row_by_number (λ (g : Given). g.assignment.slot) h.ended.assignment.slot
    (held_by h.former.number c.self.inside.survey.assignments))
    (ap (λ (k : Kept). option_map until (row_by_number (λ (g : Given). g.assignment.slot) h.ended.assignment.slot
    (held_by h.former.number k.office.assignments))) c.self.view_is ∙ c.requires.stands tt)
