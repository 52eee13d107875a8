use Rattle.std.proofs.Common.{◌≡◌, ◌<◌, ℕ, length}
use Rattle.std.specs.Prelude.{slice_index_or}
use Rattle.cpi_index.specs.Aggregate.{movement_now, movement_before}
use Rattle.cpi_index.specs.declared.movement.Movement.{Movement}
use Rattle.cpi_index.specs.Places.{is_out_of_range_at, sample_at, NoneBelow}
use Rattle.cpi_index.proofs.lists.month.movements.Given as goal

abbrev pub invariant-loop-place : goal.invariant-loop-place
invariant-loop-place l = record {
  count : length l.movements.items ≡ l.place;
  in_limits : NoneBelow (is_out_of_range_at l.groups) l.place;
  each : (k : ℕ) (d : Movement) → k < l.place →
      ((slice_index_or l.movements.items k d).current ≡ movement_now (sample_at l.groups k))
      × ((slice_index_or l.movements.items k d).previous ≡ movement_before (sample_at l.groups k));
}
