use Rattle.std.proofs.Common.{◌≡◌, take}
use Rattle.std.specs.Prelude.{max}
use Rattle.cpi_codes.specs.declared.series.SeriesId.{SeriesId}
use Rattle.cpi_store.specs.Series.{last_handed_over, last_known}
use Rattle.cpi_store.proofs.FrozenRows.{given_rows}
use Rattle.cpi_store.proofs.frozen.put_ends.Given as goal

abbrev pub invariant-loop-assigned : goal.invariant-loop-assigned
invariant-loop-assigned l =
    (s : SeriesId) → last_known l.ends s ≡ max (last_known l.initial.ends s) (last_handed_over l.taken s
    (given_rows l.taken l.holder.number (take l.assigned-index l.holder.own.assignments)))
