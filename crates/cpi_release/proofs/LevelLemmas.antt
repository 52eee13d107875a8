-- The rows of a table, one after the other.
use Rattle.std.proofs.Common.{◌≡◌, ℕ, ◌+◌, ◌*◌, ◌≤◌, ◌<◌, Bool, true, false, not, cond, List, [], ◌∷◌, ◌++◌, Option}
use Rattle.std.proofs.Common.{Some, length, get_or, drop, map, refl, sym, ap, ◌∙◌, arith, option_map, append_assoc}
use Rattle.std.specs.Prelude.{find, nat_lt}
use Rattle.std.proofs.lemmas.List.{drop_more}
use Rattle.cpi_codes.specs.Rounding.{rounded_quotient}
use Rattle.cpi_plan.specs.Plan.{Plan, IsPlan}
use Rattle.cpi_plan.specs.Sums.{sum_at, weight_under, is_node}
use Rattle.cpi_plan.specs.declared.plan_rows.Node.{Node}
use Rattle.cpi_plan.specs.declared.plan_rows.Weight.{Weight}
use Rattle.std.proofs.lemmas.Bool.Decides.{nat_tests}
use Rattle.cpi_index.specs.Aggregate.{IsIndex}
use Rattle.cpi_index.specs.Level.{IsLevel, is_level}
use Rattle.cpi_index.specs.Row.{Row}
use Rattle.cpi_index.specs.declared.fault.IndexFault.TheVariants.{OutOfRange}
use Rattle.cpi_index.specs.Means.{weighted_under}
use Rattle.cpi_index.specs.Weights.{IsNodeWeight, are_weights_in}
use Rattle.cpi_index.proofs.MeanLemmas.{mean_within}
use Rattle.cpi_index.proofs.WeightLemmas.{nodes_kept, node_is}
use Rattle.cpi_release.specs.Releases.{link_of, month_before, year_before}
use Rattle.cpi_release.specs.MonthTable.{aggregate_index, within_year, node_level, is_imputed_under, level_with}
use Rattle.cpi_release.specs.MonthTable.{level_row}
use Rattle.cpi_release.specs.Summed.{IsSummed}
use Rattle.cpi_release.specs.declared.pass.Pass.{Pass}
use Rattle.cpi_release.specs.declared.release.Release.{Release}
use Rattle.cpi_index.specs.declared.limits.TheConstants.{HUNDRED_POINTS, MOST_INDEX, MOST_NODE_WEIGHT}

here : {X : Type 0} (xs : List X) (i : ℕ) (x : X) → i < length xs → x ≡ get_or xs i x → drop i xs ≡ x ∷ drop (i + 1) xs
here xs i x h is = drop_more xs i x h ∙ ap (λ z. z ∷ drop (i + 1) xs) (sym is)

-- one more row, made of the next item
pub made_step : {X Y : Type 0} (f : X → Y) (items : List X) (i : ℕ) (x : X) (done done' : List Y) (row : Y) →
    i < length items → x ≡ get_or items i x → done' ≡ done ++ row ∷ [] → row ≡ f x → done
    ++ map f (drop i items) ≡ map f items → done' ++ map f (drop (i + 1) items) ≡ map f items
made_step f items i x done done' row h is pushed e before =
    ap (λ z. z ++ map f (drop (i + 1) items)) pushed
    ∙ append_assoc done (row ∷ []) (map f (drop (i + 1) items))
    ∙ ap (λ z. done ++ (z ∷ map f (drop (i + 1) items))) e
    ∙ ap (λ z. done ++ map f z) (sym (here items i x h is))
    ∙ before

pub find_step : (p : Node → Bool) (nodes : List Node) (i : ℕ) (n : Node) → i < length nodes → n ≡ get_or nodes i n →
    p n ≡ false → find p (drop i nodes) ≡ find p nodes → find p (drop (i + 1) nodes) ≡ find p nodes
find_step p nodes i n h is isnt before = sym (ap (find p) (here nodes i n h is)
    ∙ ap (λ b. cond b (Some n) (find p (drop (i + 1) nodes))) isnt) ∙ before

pub first_out : (p : Node → Bool) (nodes all : List Node) (i : ℕ) (n : Node) → i < length nodes →
    n ≡ get_or nodes i n → nodes ≡ all → p n ≡ true → find p (drop i nodes) ≡ find p nodes →
    option_map (λ n. OutOfRange n.code) (find p all) ≡ Some (OutOfRange n.code)
first_out p nodes all i n h is same passes before =
    ap (λ z. option_map (λ n. OutOfRange n.code) (find p z)) (sym same)
    ∙ ap (option_map (λ n. OutOfRange n.code)) (sym before ∙ ap (find p) (here nodes i n h is)
    ∙ ap (λ b. cond b (Some n) (find p (drop (i + 1) nodes))) passes)

-- the parts of a node's row, by the weights of a plan
module _ (plan : Plan) (releases : List Release) (month : ℕ) (rows : List Row) (pass : Pass)
    (s : IsSummed plan rows pass) (n : Node) (weight : ℕ) (w : weight ≡ weight_under n.code plan.weights) where
  pub limit_is : (sum : ℕ) → sum ≡ sum_at pass.sums n.code → 0 < weight → sum ≤ MOST_INDEX * weight →
      IsIndex (rounded_quotient sum weight)
  limit_is sum e some most = mean_within sum weight some (omega (arith, w, e, s.least n.code)) most

  pub within_is : (sum within : ℕ) → sum ≡ sum_at pass.sums n.code → within ≡ rounded_quotient sum weight →
      within ≡ within_year plan rows n.code
  within_is sum within e m = m ∙ ap (λ z. rounded_quotient z weight) (e ∙ s.sums n.code)
      ∙ ap (λ z. rounded_quotient (weighted_under (aggregate_index plan rows) n.code plan.weights) z) w

  pub level_is : (within link : ℕ) → within ≡ within_year plan rows n.code → link ≡ link_of releases month n.code →
      rounded_quotient (link * within) HUNDRED_POINTS ≡ node_level plan releases month rows n.code
  level_is within link e l = ap (λ z. rounded_quotient (z * within) HUNDRED_POINTS) l
      ∙ ap (λ z. rounded_quotient (link_of releases month n.code * z) HUNDRED_POINTS) e

  pub row_is : (within link last flagged : ℕ) (year : Option ℕ) (imputed : Bool) →
      within ≡ within_year plan rows n.code → link ≡ link_of releases month n.code →
      last ≡ month_before releases month n.code → year ≡ year_before releases month n.code →
      flagged ≡ sum_at pass.imputed n.code → imputed ≡ nat_lt 0 flagged →
      level_with n weight within link last year imputed ≡ level_row plan releases month rows n
  row_is within link last flagged year imputed e l m y f b =
      let flag : imputed ≡ is_imputed_under plan rows n.code = b ∙ ap (nat_lt 0) f ∙ s.flags n.code in
      rw (w, e, l, m, y, flag) (refl {a = level_row plan releases month rows n})

-- a node's sum of weights in the place of the plan's is within its limits
pub sum_within : (plan : Plan) → IsPlan plan → (ws : List Weight) → are_weights_in plan.weights ws ≡ true →
    (i : ℕ) (n : Node) → i < length plan.nodes → n ≡ get_or plan.nodes i n → (sum : ℕ) →
    (is_node ws n.code ≡ true → 1 ≤ sum) → sum ≤ MOST_NODE_WEIGHT → IsNodeWeight sum
sum_within plan kept ws same i n l is sum least most =
    (least (sym (nodes_kept plan.weights ws same n.code) ∙ node_is plan kept i n l is), most)

pub level_outside : (n : ℕ) → (IsLevel n → ⊥) → not (is_level n) ≡ true
level_outside n h = grind (arith, nat_tests)

pub level_inside : (n : ℕ) → IsLevel n → not (is_level n) ≡ false
level_inside n h = grind (arith, nat_tests)
