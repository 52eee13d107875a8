use Rattle.std.proofs.Common.{◌≡◌}
use Rattle.std.specs.Prelude.{◌||◌}
use Rattle.std.specs.Ordering.{nat_cmp}
use Rattle.std.specs.BTreeSet.{contains}
use Rattle.cpi_rows.specs.Held.{held_cmp}
use Rattle.cpi_codes.specs.declared.series.SeriesId.{SeriesId}
use Rattle.cpi_store.specs.Series.{is_handed_over}
use Rattle.cpi_store.proofs.frozen.series_handed_over.Given as goal

abbrev pub invariant-loop-over : goal.invariant-loop-over
invariant-loop-over l = (s : SeriesId) →
    (contains (held_cmp nat_cmp) l.found (s.collector, s.slot) || is_handed_over l.over-iterator s)
    ≡ is_handed_over l.taken s
