use Rattle.std.proofs.Common.{◌≡◌, ◌<◌, ℕ, false, map, take, get_or}
use Rattle.cpi_plan.specs.declared.plan_rows.Weight.{Weight}
use Rattle.cpi_index.specs.Indices.{index_row, is_index_out}
use Rattle.cpi_index.proofs.lists.indices.indices_of.Given as goal

abbrev pub invariant-loop-place : goal.invariant-loop-place
invariant-loop-place l = record {
  so_far : l.indices.items ≡ map (index_row l.plan l.bases l.carried) (take l.place l.weights);
  in_limits : (k : ℕ) (d : Weight) → k < l.place →
      is_index_out l.plan l.bases l.carried (get_or l.weights k d).code ≡ false;
}
