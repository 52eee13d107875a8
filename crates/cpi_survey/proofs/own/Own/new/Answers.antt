use Rattle.std.proofs.Common.{refl}
use Rattle.std.specs.Ordering.{nat_cmp}
use Rattle.cpi_rows.proofs.Places.{none_in_order}
use Rattle.cpi_survey.proofs.BySlot.{none_by_slot}
use Rattle.cpi_survey.proofs.own.Own.new.Goals as goal

pub invariant_of-result : goal.invariant_of-result
invariant_of-result c = record {
  assignments = rw c.new.ensures.items (none_in_order nat_cmp (λ a. a.assignment.slot));
  slots = rw c.new-2.ensures.items none_by_slot;
  greatest = rw c.new-2.ensures.items refl;
}
