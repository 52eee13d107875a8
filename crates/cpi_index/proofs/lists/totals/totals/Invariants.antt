use Rattle.std.proofs.Common.{◌≡◌, ◌≤◌, ◌<◌, ◌*◌, ℕ, length, take}
use Rattle.std.specs.Prelude.{slice_index_or}
use Rattle.cpi_index.specs.Totals.{total_at}
use Rattle.cpi_index.proofs.lists.totals.totals.Given as goal
use Rattle.cpi_index.specs.declared.limits.TheConstants.{MOST_TICKS}

abbrev pub invariant-loop-entry : goal.invariant-loop-entry
invariant-loop-entry l = record {
  count : length l.totals.items ≡ l.count;
  each : (k : ℕ) (d : ℕ) → k < l.count → slice_index_or l.totals.items k d ≡ total_at k (take l.entry-index l.entries);
  fits : (k : ℕ) → total_at k (take l.entry-index l.entries) ≤ MOST_TICKS * l.entry-index;
}
