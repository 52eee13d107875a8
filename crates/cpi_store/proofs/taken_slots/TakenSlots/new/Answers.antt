use Rattle.std.specs.Ordering.{nat_cmp}
use Rattle.cpi_rows.specs.Held.{held_cmp}
use Rattle.cpi_rows.proofs.Places.{none_in_order}
use Rattle.cpi_store.proofs.GivenSlots.{taken_key}
use Rattle.cpi_store.proofs.taken_slots.TakenSlots.new.Goals as goal

pub invariant_of-result : goal.invariant_of-result
invariant_of-result c = record {
  under = rw c.new.ensures.empty tt;
  order = rw c.new.ensures.empty (none_in_order (held_cmp nat_cmp) taken_key);
}
