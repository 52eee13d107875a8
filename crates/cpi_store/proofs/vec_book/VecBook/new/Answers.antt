use Rattle.cpi_rows.proofs.Places.{none_in_order}
use Rattle.cpi_release.specs.FrozenMonths.{release_cmp, release_key}
use Rattle.cpi_store.proofs.vec_book.VecBook.new.Goals as goal

pub invariant_of-result : goal.invariant_of-result
invariant_of-result c = record {
  releases = rw c.new-2.ensures.items (none_in_order release_cmp release_key);
  kept = rw c.none-2.ensures tt;
}
