-- Carried prices that are sorted by series are those of the list by series.
use Rattle.std.proofs.Common.{◌≡◌, Bool, true, false, List, refl}
use Rattle.std.specs.Bool.{MatchBool}
use Rattle.std.specs.List.{IsDistinct}
use Rattle.std.specs.List.Sorted.{IsPermutation}
use Rattle.std.specs.Ordering.{nat_cmp, is_eq}
use Rattle.std.proofs.lemmas.Cmp.{nat_cmp_total}
use Rattle.std.proofs.lemmas.List.Sorted.{IsPermutation-sym, IsPermutation-trans}
use Rattle.cpi_rows.specs.Keyed.{IsInOrder}
use Rattle.cpi_rows.proofs.Rising.{rises_whole}
use Rattle.cpi_rows.proofs.Truth.{less_of_lt}
use Rattle.cpi_plan.proofs.OnceLemmas.{once_from_order}
use Rattle.cpi_plan.proofs.NodeLemmas.{row_moved}
use Rattle.cpi_plan.proofs.SameLemmas.{same_rows}
use Rattle.cpi_index.specs.Carried.{Carried}
use Rattle.cpi_index.specs.Series.{are_by_series, carried_serial}
use Rattle.cpi_index.proofs.Rising.{next_above}

-- lists by series are in order
pub in_order : (xs : List Carried) → are_by_series carried_serial xs ≡ true → IsInOrder nat_cmp carried_serial xs
in_order xs h = rises_whole nat_cmp_total carried_serial xs
    (λ k d l. less_of_lt _ _ (next_above carried_serial xs 0 k d d h l))

pub sorted_is : (old new all : List Carried) (b : Bool) → IsPermutation old new →
    MatchBool b (IsInOrder nat_cmp carried_serial new)
    (IsDistinct (λ a b. is_eq (nat_cmp (carried_serial a) (carried_serial b))) old → ⊥) →
    are_by_series carried_serial all ≡ true → IsPermutation all old → (b ≡ true) × (new ≡ all)
sorted_is old new all true moved order h p =
    let whole = IsPermutation-trans all old new p moved in (
      refl,
      same_rows nat_cmp_total carried_serial new all order (in_order all h)
          (λ k. row_moved nat_cmp_total carried_serial k all new whole order),
    )
sorted_is old new all false moved order h p =
    absurd (order (once_from_order nat_cmp_total carried_serial old all (IsPermutation-sym all old p) (in_order all h)))
