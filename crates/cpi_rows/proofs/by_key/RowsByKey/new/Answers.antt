use Rattle.cpi_rows.proofs.Places.{none_in_order}
use Rattle.cpi_rows.proofs.by_key.RowsByKey.new.Goals as goal

pub invariant_of-result : goal.invariant_of-result
invariant_of-result g c = record {
  under = rw c.new.ensures.empty tt;
  order = rw c.new.ensures.empty (none_in_order g.T.Key.Ord.cmp g.T.Keyed.key);
}
