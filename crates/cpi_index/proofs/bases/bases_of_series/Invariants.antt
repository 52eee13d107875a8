use Rattle.std.proofs.Common.{◌≡◌, ◌++◌, drop, map, true}
use Rattle.cpi_index.specs.Carried.{as_base}
use Rattle.cpi_index.specs.Series.{are_by_series, carried_serial, frozen_serial}
use Rattle.cpi_index.specs.Sample.{bases_observed, put_all_bases}
use Rattle.cpi_index.proofs.bases.bases_of_series.Given as goal

abbrev pub invariant-loop-quote : goal.invariant-loop-quote
invariant-loop-quote l = record {
  merged : l.bases.items ++ put_all_bases (bases_observed (drop l.quote-index l.frozen)) (map as_base l.prices)
      ≡ put_all_bases (bases_observed l.frozen) (map as_base l.prev);
  quotes : are_by_series frozen_serial (drop l.quote-index l.frozen) ≡ true;
  prices : are_by_series carried_serial l.prices ≡ true;
}
