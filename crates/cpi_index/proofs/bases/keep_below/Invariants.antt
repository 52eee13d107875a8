use Rattle.std.proofs.Common.{◌≡◌, ◌++◌, List, length, map, true}
use Rattle.cpi_index.specs.Carried.{Carried, as_base}
use Rattle.cpi_index.specs.Series.{are_by_series, carried_serial, rises_from}
use Rattle.cpi_index.specs.Sample.{put_all_bases}
use Rattle.cpi_index.proofs.bases.keep_below.Given as goal

abbrev pub invariant-loop-rest : goal.invariant-loop-rest
invariant-loop-rest l = record {
  merged : (cs : List Carried) → rises_from l.serial (map carried_serial cs) ≡ true →
      l.bases.items ++ put_all_bases cs (map as_base l.rest)
      ≡ l.initial.bases.items ++ put_all_bases cs (map as_base l.prices);
  rises : are_by_series carried_serial l.rest ≡ true;
}

abbrev pub decreases-loop-rest : goal.decreases-loop-rest
decreases-loop-rest l = length l.rest
