use Rattle.std.proofs.Common.{◌≡◌, take}
use Rattle.cpi_codes.specs.declared.series.SeriesId.{SeriesId}
use Rattle.cpi_store.specs.Series.{last_handed_over, last_known}
use Rattle.cpi_store.specs.Holders.{all_given}
use Rattle.cpi_store.proofs.frozen.series_ends.Given as goal

abbrev pub invariant-loop-holder : goal.invariant-loop-holder
invariant-loop-holder l = (s : SeriesId) → last_known l.ends s ≡ last_handed_over l.taken s
    (all_given l.taken (take l.holder-index l.holders))
