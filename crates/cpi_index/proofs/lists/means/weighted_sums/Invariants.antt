use Rattle.std.proofs.Common.{◌≡◌, ◌*◌, ◌≤◌, take}
use Rattle.cpi_codes.specs.declared.codes.Code.{Code}
use Rattle.cpi_plan.specs.Sums.{sum_at, weight_under}
use Rattle.cpi_index.specs.Means.{index_of, weighted_under}
use Rattle.cpi_index.proofs.lists.means.weighted_sums.Given as goal
use Rattle.cpi_index.specs.declared.limits.TheConstants.{MOST_INDEX, MOST_WEIGHTED_INDEX}

abbrev pub invariant-loop-i : goal.invariant-loop-i
invariant-loop-i l = record {
  so_far : (q : Code) → sum_at l.sums q ≡ weighted_under (index_of l.elementary) q (take l.i l.weights);
  least : (q : Code) → weight_under q (take l.i l.weights) ≤ sum_at l.sums q;
  most : (q : Code) → sum_at l.sums q ≤ MOST_INDEX * weight_under q (take l.i l.weights);
  room : (q : Code) → sum_at l.sums q ≤ MOST_WEIGHTED_INDEX * l.i;
}
