use Rattle.std.proofs.Common.{◌≡◌, ◌≤◌, ◌<◌, ℕ, length, true, map, take, get_or}
use Rattle.cpi_plan.specs.Plan.{Plan}
use Rattle.cpi_index.specs.Carried.{Carried}
use Rattle.cpi_index.specs.Series.{element_at, are_by_series, carried_serial, frozen_serial}
use Rattle.cpi_index.specs.Places.{AreBuckets}
use Rattle.cpi_index.specs.MonthGroups.{base_place, rows_in_samples}
use Rattle.cpi_index.proofs.month_groups.rows_by_place.Given as goal

abbrev pub invariant-loop-i : goal.invariant-loop-i
invariant-loop-i l = record {
  samples : (plan : Plan) → l.places ≡ map (base_place plan) l.bases →
      AreBuckets (length l.counts) (rows_in_samples plan l.before l.frozen (take l.i l.bases)) l.groups.items;
  prices : (n : ℕ) (d : Carried) → l.i < length l.bases → carried_serial (get_or l.bases l.i d) ≤ n →
      element_at carried_serial n l.prices ≡ element_at carried_serial n l.before;
  quotes : (n : ℕ) (d : Carried) → l.i < length l.bases → carried_serial (get_or l.bases l.i d) ≤ n →
      element_at frozen_serial n l.quotes ≡ element_at frozen_serial n l.frozen;
  prices_rise : are_by_series carried_serial l.prices ≡ true;
  quotes_rise : are_by_series frozen_serial l.quotes ≡ true;
}
