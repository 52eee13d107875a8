-- The weights in use, read weight by weight.
use Rattle.std.proofs.Common.{◌≡◌, ℕ, zero, suc, ◌+◌, ◌<◌, Bool, true, List, [], ◌∷◌, ◌++◌, Option, Some, None, length}
use Rattle.std.proofs.Common.{get_or, take, map, cond, refl, sym, ap, ◌∙◌, arith}
use Rattle.std.specs.Prelude.{is_some, option_and_then}
use Rattle.std.specs.Ordering.{is_eq}
use Rattle.std.proofs.lemmas.List.{map-append}
use Rattle.std.proofs.lemmas.Cmp.{tied_itself}
use Rattle.cpi_codes.specs.CodeOrder.{is_same_code}
use Rattle.cpi_codes.specs.declared.codes.Code.{Code}
use Rattle.cpi_codes.specs.contracts.codes.CodeOrd.TheImpl.Laws.{total-law}
use Rattle.cpi_plan.specs.Plan.{Plan}
use Rattle.cpi_plan.specs.declared.plan_rows.Weight.{Weight}
use Rattle.cpi_plan.proofs.FaultLemmas.{equal_is}
use Rattle.cpi_rows.proofs.Truth.{and_first, and_second}
use Rattle.cpi_index.specs.Month.{is_listed}
use Rattle.cpi_index.specs.Weights.{moved_weights, moving_fault, with_levels, are_weights_in}
use Rattle.cpi_index.specs.declared.weight_levels.WeightLevels.{WeightLevels}
use Rattle.cpi_release.specs.Asking.{AreListed}
use Rattle.cpi_release.specs.Releases.{level_at_month, link_month, plan_in_use, weights_fault_in}
use Rattle.cpi_release.specs.declared.release.Release.{Release}
use Rattle.cpi_release.proofs.PassedLemmas.{take_push}

-- one more weight with its levels
pub kept_step : (ws : List Weight) (i : ℕ) (w : Weight) (done done' : List WeightLevels) (row : WeightLevels) →
    i < length ws → w ≡ get_or ws i w → done' ≡ done ++ row ∷ [] → row.weight ≡ w →
    map (λ r. r.weight) done ≡ take i ws → map (λ r. r.weight) done' ≡ take (i + 1) ws
kept_step ws i w done done' row h is pushed e before =
    ap (map (λ r. r.weight)) pushed
    ∙ map-append (λ (r : WeightLevels). r.weight) done (row ∷ [])
    ∙ ap (λ z. z ++ row.weight ∷ []) before
    ∙ ap (λ z. take i ws ++ z ∷ []) e
    ∙ sym (take_push ws i w h is)

-- moved weights have the codes of the weights that they are moved from, in their order
are_of_rows : (rows : List WeightLevels) → are_weights_in (map (λ r. r.weight) rows) (moved_weights rows) ≡ true
are_of_rows [] = refl
are_of_rows (r ∷ rows) = rw (ap is_eq (tied_itself total-law r.weight.code)) (are_of_rows rows)

pub are_of : (own : List Weight) (rows : List WeightLevels) (ws : List Weight) → map (λ r. r.weight) rows ≡ own →
    ws ≡ moved_weights rows → are_weights_in own ws ≡ true
are_of own rows ws e is = ap (λ z. are_weights_in z ws) (sym e) ∙ ap (are_weights_in (map (λ r. r.weight) rows)) is
    ∙ are_of_rows rows

-- marks of the plan's weights are those of the weights in use
code_at : (own ws : List Weight) → are_weights_in own ws ≡ true → (k : ℕ) (d : Weight) → k < length ws →
    (get_or own k d).code ≡ (get_or ws k d).code
code_at own [] same k d h = absurd (omega (arith, h))
code_at [] (x ∷ xs) same k d h = cc
code_at (w ∷ ws) (x ∷ xs) same zero d h = equal_is w.code x.code
    (and_first (is_same_code w.code x.code) (are_weights_in ws xs) same)
code_at (w ∷ ws) (x ∷ xs) same (suc k) d h = code_at ws xs
    (and_second (is_same_code w.code x.code) (are_weights_in ws xs) same) k d (omega (arith, h))

pub listed_kept : (own ws : List Weight) (carry : List Code) (unchanged : List Bool) → are_weights_in own ws ≡ true →
    length own ≡ length ws → AreListed own carry unchanged → AreListed ws carry unchanged
listed_kept own ws carry unchanged same count each k d h = each k d (omega (arith, h, count))
    ∙ ap (is_listed carry) (code_at own ws same k d h)

-- with a reference month, the plan's weights are moved from it to the link month
module _ (plan : Plan) (releases : List Release) (month reference link : ℕ) (e : plan.reference ≡ Some reference)
    (l : link ≡ link_month month) where
  abbrev levelled : List WeightLevels
  levelled = map (with_levels (level_at_month releases link) (level_at_month releases reference)) plan.weights

  abbrev rows_by : Option ℕ → ℕ → List WeightLevels
  rows_by o k = map (with_levels (level_at_month releases k)
      (λ node. option_and_then (λ m. level_at_month releases m node) o))
      plan.weights

  fault_moved : (rows : List WeightLevels) → rows ≡ levelled →
      moving_fault rows ≡ weights_fault_in plan releases month
  fault_moved rows is =
      ap moving_fault is
      ∙ ap (λ o. cond (is_some o) (moving_fault (rows_by o link)) None) (sym e)
      ∙ ap (λ k. cond (is_some plan.reference) (moving_fault (rows_by plan.reference k)) None) l

  weights_moved : (rows : List WeightLevels) → rows ≡ levelled →
      moved_weights rows ≡ (plan_in_use plan releases month).weights
  weights_moved rows is =
      ap moved_weights is
      ∙ ap (λ o. cond (is_some o) (moved_weights (rows_by o link)) plan.weights) (sym e)
      ∙ ap (λ k. cond (is_some plan.reference) (moved_weights (rows_by plan.reference k)) plan.weights) l

  -- the fault of moving such rows and the moved weights are those in use
  pub are_moved_in_use : (rows : List WeightLevels) → rows ≡ levelled →
      (moving_fault rows ≡ weights_fault_in plan releases month)
      × (moved_weights rows ≡ (plan_in_use plan releases month).weights)
  are_moved_in_use rows is = (fault_moved rows is, weights_moved rows is)
