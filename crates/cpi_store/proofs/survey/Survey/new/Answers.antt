use Rattle.std.proofs.Common.{refl}
use Rattle.std.specs.Ordering.{nat_cmp}
use Rattle.cpi_rows.proofs.Places.{none_in_order}
use Rattle.cpi_store.proofs.survey.Survey.new.Goals as goal

pub invariant_of-result : goal.invariant_of-result
invariant_of-result c = record {
  holders = rw c.new-2.ensures.items (none_in_order nat_cmp (λ h. h.number));
  registrations = λ key. rw (c.new-2.ensures.items, c.new-5.ensures.empty) refl;
  outlets = rw c.new-4.ensures (none_in_order nat_cmp (λ u. u.number));
  given = rw c.new-3.ensures tt;
  placed = rw c.new-2.ensures.items tt;
  nobody = c.new-6.ensures;
  names = rw c.new-2.ensures.items refl;
}
