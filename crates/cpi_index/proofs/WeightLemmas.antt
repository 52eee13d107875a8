-- Weights in use: they replace a plan's own, and each is within its limits.
use Rattle.std.proofs.Common.{◌≡◌, ℕ, zero, suc, ◌+◌, ◌*◌, ◌<◌, ◌≤◌, Bool, true, false, ◌&&◌, ◌||◌, cond, eqb}
use Rattle.std.proofs.Common.{List, [], ◌∷◌, Option, Some, None, option_map, length, take, get_or, find, filter, map}
use Rattle.std.proofs.Common.{refl, sym, ap, subst, ◌∙◌, arith, add-one}
use Rattle.std.specs.Prelude.{is_some}
use Rattle.std.specs.List.{list_all, list_any, AllByRecursion}
use Rattle.std.specs.List.Sorted.{IsStrictlySortedBy}
use Rattle.std.specs.Option.{option_or}
use Rattle.std.specs.Ordering.{is_eq}
use Rattle.std.specs.declared.cmp.Ordering.TheVariants.{Less}
use Rattle.std.proofs.lemmas.Bool.Decides.{nat_tests}
use Rattle.std.proofs.lemmas.Cmp.{tied_itself}
use Rattle.std.proofs.lemmas.List.Folds.{list_any_at}
use Rattle.std.proofs.lemmas.List.Sums.{sum_by-cons}
use Rattle.cpi_codes.specs.CodeOrder.{code_cmp, is_same_code}
use Rattle.cpi_codes.specs.CodeText.{is_code_at_or_below}
use Rattle.cpi_codes.specs.declared.codes.Code.{Code}
use Rattle.cpi_codes.specs.contracts.codes.CodeOrd.TheImpl.Laws.{total-law}
use Rattle.cpi_rows.proofs.Truth.{and_first, and_second, not_false, or_false_first, or_false_second}
use Rattle.cpi_rows.specs.Keyed.{IsInOrder}
use Rattle.cpi_plan.specs.Plan.{Plan, IsPlan, has_zero_weight, total_weight}
use Rattle.cpi_plan.specs.Sums.{weight_under, is_node}
use Rattle.cpi_plan.specs.declared.plan_rows.Weight.{Weight}
use Rattle.cpi_plan.specs.declared.plan_rows.Node.{Node}
use Rattle.cpi_plan.proofs.FaultLemmas.{equal_is}
use Rattle.cpi_plan.proofs.UnderLemmas.{weighs, under_cons, amount_fits}
use Rattle.cpi_index.specs.Aggregate.{IsIndex}
use Rattle.cpi_index.specs.Carried.{Carried}
use Rattle.cpi_index.specs.Indices.{elementary_indices, index_row}
use Rattle.cpi_index.specs.Means.{are_indices_in, weighted_under}
use Rattle.cpi_index.specs.Sample.{first_code}
use Rattle.cpi_index.specs.Weights.{IsNodeWeight, is_effective, moved_parts, moved_weights, moving_fault, is_moved_out}
use Rattle.cpi_index.specs.Weights.{with_levels, weights_in_use, weights_fault, with_weights, are_weights_in}
use Rattle.cpi_index.specs.declared.fault.IndexFault.{IndexFault}
use Rattle.cpi_index.specs.declared.index.NodeIndex.{NodeIndex}
use Rattle.cpi_index.specs.declared.weight_levels.WeightLevels.{WeightLevels}
use Rattle.cpi_index.proofs.MeanLemmas.{product_least, product_most}
use Rattle.cpi_plan.specs.declared.limits.TheConstants.{ALL_PARTS}
use Rattle.cpi_index.specs.declared.limits.TheConstants.{MOST_INDEX, MOST_WEIGHT_IN_USE}

-- each weight is within the limits of a weight in use
abbrev pub are_effective : List Weight → Bool
are_effective ws = list_all (λ w. is_effective w.parts) ws

-- ---- one weight for each of the plan's, in their order
pub are_own : (own : List Weight) → are_weights_in own own ≡ true
are_own [] = refl
are_own (w ∷ ws) = rw (ap is_eq (tied_itself total-law w.code)) (are_own ws)

pub are_moved : (link reference : Code → Option ℕ) (own : List Weight) →
    are_weights_in own (moved_weights (map (with_levels link reference) own)) ≡ true
are_moved link reference [] = refl
are_moved link reference (w ∷ ws) = rw (ap is_eq (tied_itself total-law w.code)) (are_moved link reference ws)

pub are_in_use : (link reference : Code → Option ℕ) (plan : Plan) →
    are_weights_in plan.weights (weights_in_use link reference plan) ≡ true
are_in_use link reference plan = cases plan.reference
  where
    cases : (o : Option ℕ) → are_weights_in plan.weights
        (cond (is_some o) (moved_weights (map (with_levels link reference) plan.weights)) plan.weights) ≡ true
    cases None = are_own plan.weights
    cases (Some m) = are_moved link reference plan.weights

-- the first of two lists has the second's code in front, and the rest goes on so
code_is : (w x : Weight) (ws xs : List Weight) → are_weights_in (w ∷ ws) (x ∷ xs) ≡ true → w.code ≡ x.code
code_is w x ws xs h = equal_is w.code x.code (and_first (is_same_code w.code x.code) (are_weights_in ws xs) h)

rest_is : (w x : Weight) (ws xs : List Weight) → are_weights_in (w ∷ ws) (x ∷ xs) ≡ true → are_weights_in ws xs ≡ true
rest_is w x ws xs h = and_second (is_same_code w.code x.code) (are_weights_in ws xs) h

pub count_kept : (own ws : List Weight) → are_weights_in own ws ≡ true → length own ≡ length ws
count_kept [] [] h = refl
count_kept [] (x ∷ xs) h = cc
count_kept (w ∷ ws) [] h = cc
count_kept (w ∷ ws) (x ∷ xs) h = ap suc (count_kept ws xs (rest_is w x ws xs h))

pub codes_kept : (own ws : List Weight) → are_weights_in own ws ≡ true → map (λ w. w.code) own ≡ map (λ w. w.code) ws
codes_kept [] [] h = refl
codes_kept [] (x ∷ xs) h = cc
codes_kept (w ∷ ws) [] h = cc
codes_kept (w ∷ ws) (x ∷ xs) h =
    ap (λ c. c ∷ map (λ w. w.code) ws) (code_is w x ws xs h)
    ∙ ap (λ cs. x.code ∷ cs) (codes_kept ws xs (rest_is w x ws xs h))

above_kept : (c : Code) (own ws : List Weight) → are_weights_in own ws ≡ true →
    AllByRecursion (λ (w : Weight). code_cmp c w.code ≡ Less) own →
    AllByRecursion (λ (w : Weight). code_cmp c w.code ≡ Less) ws
above_kept c [] [] h a = tt
above_kept c [] (x ∷ xs) h a = cc
above_kept c (w ∷ ws) [] h a = cc
above_kept c (w ∷ ws) (x ∷ xs) h a = (
  subst (λ z. code_cmp c z ≡ Less) (code_is w x ws xs h) a.0,
  above_kept c ws xs (rest_is w x ws xs h) a.1,
)

pub order_kept : (own ws : List Weight) → are_weights_in own ws ≡ true → IsInOrder code_cmp (λ w. w.code) own →
    IsInOrder code_cmp (λ w. w.code) ws
unfolding IsStrictlySortedBy
order_kept [] [] h s = tt
order_kept [] (x ∷ xs) h s = cc
order_kept (w ∷ ws) [] h s = cc
order_kept (w ∷ ws) (x ∷ xs) h s = (
  subst (λ z. AllByRecursion (λ (y : Weight). code_cmp z y.code ≡ Less) xs) (code_is w x ws xs h)
      (above_kept w.code ws xs (rest_is w x ws xs h) s.0),
  order_kept ws xs (rest_is w x ws xs h) s.1,
)

pub all_kept : (p : Code → Bool) (own ws : List Weight) → are_weights_in own ws ≡ true →
    list_all (λ w. p w.code) own ≡ list_all (λ w. p w.code) ws
all_kept p [] [] h = refl
all_kept p [] (x ∷ xs) h = cc
all_kept p (w ∷ ws) [] h = cc
all_kept p (w ∷ ws) (x ∷ xs) h =
    ap (λ c. p c && list_all (λ w. p w.code) ws) (code_is w x ws xs h)
    ∙ ap (λ b. p x.code && b) (all_kept p ws xs (rest_is w x ws xs h))

pub any_kept : (p : Code → Bool) (own ws : List Weight) → are_weights_in own ws ≡ true →
    list_any (λ w. p w.code) own ≡ list_any (λ w. p w.code) ws
any_kept p [] [] h = refl
any_kept p [] (x ∷ xs) h = cc
any_kept p (w ∷ ws) [] h = cc
any_kept p (w ∷ ws) (x ∷ xs) h =
    ap (λ c. p c || list_any (λ w. p w.code) ws) (code_is w x ws xs h)
    ∙ ap (λ b. p x.code || b) (any_kept p ws xs (rest_is w x ws xs h))

pub nodes_kept : (own ws : List Weight) → are_weights_in own ws ≡ true → (code : Code) →
    is_node own code ≡ is_node ws code
nodes_kept own ws h code = any_kept (λ c. is_code_at_or_below code c) own ws h

pub indices_kept : (own ws : List Weight) → are_weights_in own ws ≡ true → (xs : List NodeIndex) →
    are_indices_in own xs ≡ are_indices_in ws xs
indices_kept [] [] h xs = refl
indices_kept [] (v ∷ vs) h xs = cc
indices_kept (w ∷ ws) [] h xs = cc
indices_kept (w ∷ ws) (v ∷ vs) h [] = refl
indices_kept (w ∷ ws) (v ∷ vs) h (x ∷ xs) =
    ap (λ c. is_same_code c x.code && are_indices_in ws xs) (code_is w v ws vs h)
    ∙ ap (λ b. is_same_code v.code x.code && b) (indices_kept ws vs (rest_is w v ws vs h) xs)

pub first_kept : (p : Code → Bool) (own ws : List Weight) → are_weights_in own ws ≡ true →
    first_code p own ≡ first_code p ws
first_kept p [] [] h = refl
first_kept p [] (x ∷ xs) h = cc
first_kept p (w ∷ ws) [] h = cc
first_kept p (w ∷ ws) (x ∷ xs) h =
    cases (p w.code) (first_kept p ws xs (rest_is w x ws xs h))
    ∙ ap (λ c. option_map (λ w. w.code) (cond (p c) (Some x) (find (λ w. p w.code) xs))) (code_is w x ws xs h)
  where
    cases : (b : Bool) → first_code p ws ≡ first_code p xs →
        option_map (λ w. w.code) (cond b (Some w) (find (λ w. p w.code) ws)) ≡ option_map (λ w. w.code)
        (cond b (Some x) (find (λ w. p w.code) xs))
    cases true r = ap Some (code_is w x ws xs h)
    cases false r = r

-- the indices of a plan's aggregates are those of the plan with other weights
module _ (plan : Plan) (bases carried : List Carried) where
  rows_kept : (own ws : List Weight) → are_weights_in own ws ≡ true →
      map (index_row plan bases carried) own ≡ map (index_row plan bases carried) ws
  rows_kept [] [] h = refl
  rows_kept [] (x ∷ xs) h = cc
  rows_kept (w ∷ ws) [] h = cc
  rows_kept (w ∷ ws) (x ∷ xs) h =
      ap (λ c. index_row plan bases carried (weight_at c) ∷ map (index_row plan bases carried) ws) (code_is w x ws xs h)
      ∙ ap (λ z. index_row plan bases carried x ∷ z) (rows_kept ws xs (rest_is w x ws xs h))
    where
      weight_at : Code → Weight
      weight_at c = record { code = c; parts = 0 }

pub elementary_kept : (plan : Plan) (ws : List Weight) → are_weights_in plan.weights ws ≡ true →
    (bases carried : List Carried) → elementary_indices (with_weights plan ws) bases carried ≡ elementary_indices plan
    bases carried
elementary_kept plan ws h bases carried = sym (rows_kept plan bases carried plan.weights ws h)

-- ---- the test of it, weight by weight
and_no : (b : Bool) → (b && false) ≡ false
and_no true = refl
and_no false = refl

pub other_weights : (ws xs : List Weight) → (length ws ≡ length xs → ⊥) → are_weights_in ws xs ≡ false
other_weights [] [] h = absurd (h refl)
other_weights [] (x ∷ xs) h = refl
other_weights (w ∷ ws) [] h = refl
other_weights (w ∷ ws) (x ∷ xs) h = ap (λ b. is_same_code w.code x.code && b) (other_weights ws xs (λ e. h (ap suc e)))
    ∙ and_no (is_same_code w.code x.code)

pub differ_weights : (ws xs : List Weight) (i : ℕ) (w x : Weight) → i < length ws → i < length xs →
    w ≡ get_or ws i w → x ≡ get_or xs i x → is_same_code w.code x.code ≡ false → are_weights_in ws xs ≡ false
differ_weights [] xs i w x l m is js e = absurd (omega arith)
differ_weights (v ∷ ws) [] i w x l m is js e = refl
differ_weights (v ∷ ws) (y ∷ xs) zero w x l m is js e =
    rw (sym (ap (λ z. is_same_code z.code y.code) is) ∙ sym (ap (λ z. is_same_code w.code z.code) js) ∙ e) refl
differ_weights (v ∷ ws) (y ∷ xs) (suc i) w x l m is js e =
    ap (λ b. is_same_code v.code y.code && b) (differ_weights ws xs i w x (omega arith) (omega arith) is js e)
    ∙ and_no (is_same_code v.code y.code)

pub same_weights : (ws xs : List Weight) → length ws ≡ length xs →
    ((k : ℕ) (d e : Weight) → k < length ws → is_same_code (get_or ws k d).code (get_or xs k e).code ≡ true) →
    are_weights_in ws xs ≡ true
same_weights [] [] l h = refl
same_weights [] (x ∷ xs) l h = absurd (omega (arith, l))
same_weights (w ∷ ws) [] l h = absurd (omega (arith, l))
same_weights (w ∷ ws) (x ∷ xs) l h = rw (h 0 w x (omega arith))
    (same_weights ws xs (omega (arith, l)) (λ k d e m. h (suc k) d e (omega arith)))

-- ---- the limits of each
pub effective_is : (n : ℕ) → 1 ≤ n → n ≤ MOST_WEIGHT_IN_USE → is_effective n ≡ true
effective_is n l m = grind (arith, nat_tests)

pub effective_least : (n : ℕ) → is_effective n ≡ true → 1 ≤ n
effective_least n h = grind (arith, nat_tests)

pub effective_most : (n : ℕ) → is_effective n ≡ true → n ≤ MOST_WEIGHT_IN_USE
effective_most n h = grind (arith, nat_tests)

some_parts : (n : ℕ) → eqb n 0 ≡ false → 1 ≤ n
some_parts n h = grind (arith, nat_tests)

few_parts : (ws : List Weight) → has_zero_weight ws ≡ false → length ws ≤ total_weight ws
few_parts [] z = omega arith
few_parts (w ∷ ws) z =
    omega (
      arith,
      some_parts w.parts (or_false_first (eqb w.parts 0) (has_zero_weight ws) z),
      few_parts ws (or_false_second (eqb w.parts 0) (has_zero_weight ws) z),
      sum_by-cons (λ (w : Weight). w.parts) w ws,
    )

-- a plan has at most a million weights
pub few_weights : (plan : Plan) → IsPlan plan → length plan.weights ≤ ALL_PARTS
few_weights plan kept = omega (arith, few_parts plan.weights kept.positive, kept.whole)

own_parts : (ws : List Weight) → has_zero_weight ws ≡ false → total_weight ws ≤ MOST_WEIGHT_IN_USE →
    are_effective ws ≡ true
own_parts [] z l = refl
own_parts (w ∷ ws) z l =
    let more : total_weight (w ∷ ws) ≡ w.parts + total_weight ws = sum_by-cons (λ (w : Weight). w.parts) w ws in
    rw (effective_is w.parts (some_parts w.parts (or_false_first (eqb w.parts 0) (has_zero_weight ws) z))
    (omega (arith, more, l)))
    (own_parts ws (or_false_second (eqb w.parts 0) (has_zero_weight ws) z) (omega (arith, more, l)))

pub own_effective : (plan : Plan) → IsPlan plan → are_effective plan.weights ≡ true
own_effective plan kept = own_parts plan.weights kept.positive (omega (arith, kept.whole))

moved_effective : (rows : List WeightLevels) → find is_moved_out rows ≡ None → are_effective (moved_weights rows) ≡ true
moved_effective [] h = refl
moved_effective (r ∷ rows) h = cases (is_moved_out r) refl (moved_effective rows)
  where
    cases : (b : Bool) → is_moved_out r ≡ b → (find is_moved_out rows ≡ None →
        are_effective (moved_weights rows) ≡ true)
        → are_effective (moved_weights (r ∷ rows)) ≡ true
    cases true e rest = let no : Some r ≡ None = sym (ap (λ b. cond b (Some r) (find is_moved_out rows)) e) ∙ h in cc
    cases false e rest =
        rw (not_false (is_effective (moved_parts r)) e)
        (rest (sym (ap (λ b. cond b (Some r) (find is_moved_out rows)) e) ∙ h))

none_out : (a : Option IndexFault) (g : WeightLevels → IndexFault) (b : Option WeightLevels) →
    option_or a (option_map g b) ≡ None → b ≡ None
none_out None g None h = refl
none_out None g (Some r) h = cc
none_out (Some x) g b h = cc

pub effective_of : (link reference : Code → Option ℕ) (plan : Plan) → IsPlan plan →
    weights_fault link reference plan ≡ None → are_effective (weights_in_use link reference plan) ≡ true
effective_of link reference plan kept = cases plan.reference
  where
    cases : (o : Option ℕ) → cond (is_some o) (moving_fault (map (with_levels link reference) plan.weights)) None ≡ None
        → are_effective (cond (is_some o) (moved_weights (map (with_levels link reference) plan.weights))
        plan.weights) ≡ true
    cases None h = own_effective plan kept
    cases (Some m) h = moved_effective (map (with_levels link reference) plan.weights)
        (none_out _ _ (find is_moved_out (map (with_levels link reference) plan.weights)) h)

not_zero : (n : ℕ) → 1 ≤ n → eqb n 0 ≡ false
not_zero n l = grind (arith, nat_tests)

pub none_zero : (ws : List Weight) → are_effective ws ≡ true → has_zero_weight ws ≡ false
none_zero [] h = refl
none_zero (w ∷ ws) h =
    rw (not_zero w.parts (effective_least w.parts (and_first (is_effective w.parts) (are_effective ws) h)))
    (none_zero ws (and_second (is_effective w.parts) (are_effective ws) h))

neither : (a b : Bool) → a ≡ false → b ≡ false → (a || b) ≡ false
neither a b e f = cc

-- one more weight that isn't 0
positive_next : (ws : List Weight) (i : ℕ) (w : Weight) → i < length ws → w ≡ get_or ws i w → 1 ≤ w.parts →
    has_zero_weight (take i ws) ≡ false → has_zero_weight (take (suc i) ws) ≡ false
positive_next [] i w l is p z = absurd (omega arith)
positive_next (v ∷ ws) zero w l is p z = rw (sym (ap (λ (z : Weight). eqb z.parts 0) is) ∙ not_zero w.parts p) refl
positive_next (v ∷ ws) (suc i) w l is p z =
    neither (eqb v.parts 0) (has_zero_weight (take (suc i) ws))
    (or_false_first (eqb v.parts 0) (has_zero_weight (take i ws)) z)
    (positive_next ws i w (omega arith) is p (or_false_second (eqb v.parts 0) (has_zero_weight (take i ws)) z))

pub positive_more : (ws : List Weight) (i : ℕ) (w : Weight) → i < length ws → w ≡ get_or ws i w → 1 ≤ w.parts →
    has_zero_weight (take i ws) ≡ false → has_zero_weight (take (i + 1) ws) ≡ false
positive_more ws i w l is p z = rw add-one (positive_next ws i w l is p z)

-- ---- the sum at and below a code
pub under_most : (q : Code) (ws : List Weight) → are_effective ws ≡ true →
    weight_under q ws ≤ MOST_WEIGHT_IN_USE * length ws
under_most q [] h = omega arith
under_most q (w ∷ ws) h =
    omega (
      arith,
      under_cons q w ws (is_code_at_or_below q w.code) refl,
      amount_fits (is_code_at_or_below q w.code) w.parts MOST_WEIGHT_IN_USE
          (effective_most w.parts (and_first (is_effective w.parts) (are_effective ws) h)),
      under_most q ws (and_second (is_effective w.parts) (are_effective ws) h),
    )

pub under_within : (plan : Plan) → IsPlan plan → (ws : List Weight) → are_weights_in plan.weights ws ≡ true →
    are_effective ws ≡ true → (code : Code) → is_node plan.weights code ≡ true → IsNodeWeight (weight_under code ws)
under_within plan kept ws same each code node = (
  omega (arith, (weighs code ws (none_zero ws each)).1 (sym (nodes_kept plan.weights ws same code) ∙ node)),
  omega (arith, under_most code ws each, count_kept plan.weights ws same, few_weights plan kept),
)

pub node_is : (plan : Plan) → IsPlan plan → (i : ℕ) (n : Node) → i < length plan.nodes → n ≡ get_or plan.nodes i n →
    is_node plan.weights n.code ≡ true
node_is plan kept i n l is =
    let here : is_same_code (get_or plan.nodes i n).code n.code ≡ true = ap (λ z. is_same_code z.code n.code) (sym is)
    ∙ ap is_eq (tied_itself total-law n.code) in
    kept.complete n.code ∙ list_any_at (λ m. is_same_code m.code n.code) plan.nodes i n l here

pub node_within : (plan : Plan) → IsPlan plan → (ws : List Weight) → are_weights_in plan.weights ws ≡ true →
    are_effective ws ≡ true → (i : ℕ) (n : Node) → i < length plan.nodes → n ≡ get_or plan.nodes i n →
    IsNodeWeight (weight_under n.code ws)
node_within plan kept ws same each i n l is = under_within plan kept ws same each n.code (node_is plan kept i n l is)

-- ---- the sum of weight times index lies between the sum of the weights and so many times that sum
module _ (index : Code → ℕ) (q : Code) where
  abbrev product : Weight → ℕ
  product w = w.parts * index w.code

  weighted_cons : (w : Weight) (ws : List Weight) (b : Bool) → is_code_at_or_below q w.code ≡ b →
      weighted_under index q (w ∷ ws) ≡ cond b (product w) 0 + weighted_under index q ws
  weighted_cons w ws true e = rw e (sum_by-cons product w (filter (λ w. is_code_at_or_below q w.code) ws))
  weighted_cons w ws false e = rw e (omega arith)

  pub weighted_least : (ws : List Weight) → ((k : ℕ) (d : Weight) → k < length ws →
      IsIndex (index (get_or ws k d).code)) → weight_under q ws ≤ weighted_under index q ws
  weighted_least [] h = omega arith
  weighted_least (w ∷ ws) h =
      let rest = weighted_least ws (λ k d l. h (suc k) d (omega (arith, l))) in
      let one = product_least w.parts (index w.code) (h 0 w (omega arith)).0 in
      cases (is_code_at_or_below q w.code) (under_cons q w ws (is_code_at_or_below q w.code) refl)
      (weighted_cons w ws (is_code_at_or_below q w.code) refl) rest one
    where
      cases : (b : Bool) → weight_under q (w ∷ ws) ≡ cond b w.parts 0 + weight_under q ws →
          weighted_under index q (w ∷ ws) ≡ cond b (product w) 0 + weighted_under index q ws →
          weight_under q ws ≤ weighted_under index q ws → w.parts ≤ product w →
          weight_under q (w ∷ ws) ≤ weighted_under index q (w ∷ ws)
      cases true e f r o = omega arith
      cases false e f r o = omega arith

  pub weighted_most : (ws : List Weight) → ((k : ℕ) (d : Weight) → k < length ws →
      IsIndex (index (get_or ws k d).code)) → weighted_under index q ws ≤ MOST_INDEX * weight_under q ws
  weighted_most [] h = omega arith
  weighted_most (w ∷ ws) h =
      let rest = weighted_most ws (λ k d l. h (suc k) d (omega (arith, l))) in
      let one = product_most w.parts (index w.code) (h 0 w (omega arith)).1 in
      cases (is_code_at_or_below q w.code) (under_cons q w ws (is_code_at_or_below q w.code) refl)
      (weighted_cons w ws (is_code_at_or_below q w.code) refl) rest one
    where
      cases : (b : Bool) → weight_under q (w ∷ ws) ≡ cond b w.parts 0 + weight_under q ws →
          weighted_under index q (w ∷ ws) ≡ cond b (product w) 0 + weighted_under index q ws →
          weighted_under index q ws ≤ MOST_INDEX * weight_under q ws → product w ≤ MOST_INDEX * w.parts →
          weighted_under index q (w ∷ ws) ≤ MOST_INDEX * weight_under q (w ∷ ws)
      cases true e f r o = omega arith
      cases false e f r o = omega arith
