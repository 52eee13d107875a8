-- If no aggregate lacks anything, a pass's sums are those of the indices.
use Rattle.std.proofs.Common.{◌≡◌, ℕ, ◌+◌, ◌*◌, ◌≤◌, Bool, true, false, not, ◌&&◌, ◌||◌, cond, List, [], ◌∷◌, Some}
use Rattle.std.proofs.Common.{None, refl, ap, ◌∙◌, arith, is_none, ltb}
use Rattle.std.specs.Prelude.{filter, sum_by}
use Rattle.std.specs.List.{list_any}
use Rattle.std.proofs.lemmas.List.Sums.{sum_by-cons}
use Rattle.std.proofs.lemmas.Bool.Decides.{nat_tests}
use Rattle.cpi_codes.specs.CodeText.{is_code_at_or_below}
use Rattle.cpi_codes.specs.declared.codes.Code.{Code}
use Rattle.cpi_rows.proofs.Truth.{and_first, and_second}
use Rattle.cpi_plan.specs.Plan.{Plan}
use Rattle.cpi_plan.specs.Sums.{weight_under}
use Rattle.cpi_plan.specs.declared.plan_rows.Weight.{Weight}
use Rattle.cpi_index.specs.Row.{Row}
use Rattle.cpi_index.specs.Aggregate.{lacks_a_match, are_in_limits, is_index}
use Rattle.cpi_index.specs.Sample.{is_none_of}
use Rattle.cpi_index.specs.Month.{sample_rows}
use Rattle.cpi_index.specs.Group.{lack_of, group_index, has_imputed}
use Rattle.cpi_index.specs.declared.lack.GroupLack.TheVariants as lack
use Rattle.cpi_index.proofs.MeanLemmas.{product_least}
use Rattle.cpi_index.specs.Means.{weighted_under}
use Rattle.cpi_release.specs.Passing.{index_in, imputed_flag, lack_at, are_whole, IsPassed}
use Rattle.cpi_release.specs.Summed.{IsSummed}
use Rattle.cpi_release.specs.declared.pass.Pass.{Pass}

-- with nothing lacked, the index is within its limits
last : (a b c d : Bool) → is_none (cond a (Some lack.NoSample)
    (cond b (Some lack.NoMatch) (cond (not c) (Some lack.PriceOutOfRange)
    (cond (not d) (Some lack.IndexOutOfRange) None)))) ≡ true → d ≡ true
last true b c d h = cc
last false true c d h = cc
last false false false d h = cc
last false false true false h = cc
last false false true true h = refl

positive : (n : ℕ) → is_index n ≡ true → 1 ≤ n
positive n h = grind (arith, nat_tests)

index_least : (u : Bool) (rows : List Row) → is_none (lack_of u rows) ≡ true → 1 ≤ group_index rows
index_least u rows h = positive (group_index rows)
    (last (is_none_of rows) (lacks_a_match u rows) (are_in_limits rows) (is_index (group_index rows)) h)

same_more : (f g : Weight → ℕ) (w : Weight) (ws : List Weight) → f w ≡ g w → sum_by f ws ≡ sum_by g ws →
    sum_by f (w ∷ ws) ≡ sum_by g (w ∷ ws)
same_more f g w ws e h = omega (arith, e, h, sum_by-cons f w ws, sum_by-cons g w ws)

least_more : (f g : Weight → ℕ) (w : Weight) (ws : List Weight) → f w ≤ g w → sum_by f ws ≤ sum_by g ws →
    sum_by f (w ∷ ws) ≤ sum_by g (w ∷ ws)
least_more f g w ws e h = omega (arith, e, h, sum_by-cons f w ws, sum_by-cons g w ws)

module _ (own : Code → List Row) (listed : Code → Bool) where
  sums_whole : (q : Code) (ws : List Weight) → are_whole own listed ws ≡ true →
      sum_by (λ w. w.parts * index_in (listed w.code) (own w.code))
      (filter (λ w. is_code_at_or_below q w.code) ws) ≡ weighted_under (λ e. group_index (own e)) q ws
  sums_whole q [] h = refl
  sums_whole q (w ∷ ws) h =
      let f : Weight → ℕ = λ w. w.parts * index_in (listed w.code) (own w.code) in
      let g : Weight → ℕ = λ w. w.parts * group_index (own w.code) in
      let below = filter (λ w. is_code_at_or_below q w.code) ws in
      let whole = and_first (is_none (lack_at own listed w.code)) (are_whole own listed ws) h in
      let same : f w ≡ g w = ap (λ b. w.parts * cond b (group_index (own w.code)) 0) whole in
      let rest = sums_whole q ws (and_second (is_none (lack_at own listed w.code)) (are_whole own listed ws) h) in
      elim (is_code_at_or_below q w.code) as (λ b. sum_by f (cond b (w ∷ below) below) ≡ sum_by g
      (cond b (w ∷ below) below)) [
        | true ↦ same_more f g w below same rest
        | false ↦ rest
      ]

  sums_least : (q : Code) (ws : List Weight) → are_whole own listed ws ≡ true →
      weight_under q ws ≤ weighted_under (λ e. group_index (own e)) q ws
  sums_least q [] h = omega arith
  sums_least q (w ∷ ws) h =
      let f : Weight → ℕ = λ w. w.parts in
      let g : Weight → ℕ = λ w. w.parts * group_index (own w.code) in
      let below = filter (λ w. is_code_at_or_below q w.code) ws in
      let whole = and_first (is_none (lack_at own listed w.code)) (are_whole own listed ws) h in
      let least : f w ≤ g w = product_least w.parts (group_index (own w.code))
      (index_least (listed w.code) (own w.code) whole) in
      let rest = sums_least q ws (and_second (is_none (lack_at own listed w.code)) (are_whole own listed ws) h) in
      elim (is_code_at_or_below q w.code) as (λ b. sum_by f (cond b (w ∷ below) below) ≤ sum_by g
      (cond b (w ∷ below) below)) [
        | true ↦ least_more f g w below least rest
        | false ↦ rest
      ]

  flag_more : (b : Bool) (m n f : ℕ) (any : Bool) → f ≡ cond b 1 0 → n ≡ f + m → ltb 0 m ≡ any → ltb 0 n ≡ (b || any)
  flag_more true m n f any e s h = grind (arith, nat_tests, e, s)
  flag_more false m n f any e s h = let same : n ≡ m = omega (arith, e, s) in ap (ltb 0) same ∙ h

  flags_whole : (q : Code) (ws : List Weight) → are_whole own listed ws ≡ true →
      ltb 0 (sum_by (λ w. imputed_flag (listed w.code) (own w.code)) (filter (λ w. is_code_at_or_below q w.code) ws))
      ≡ list_any
      (λ w. is_code_at_or_below q w.code && has_imputed (own w.code)) ws
  flags_whole q [] h = refl
  flags_whole q (w ∷ ws) h =
      let f : Weight → ℕ = λ w. imputed_flag (listed w.code) (own w.code) in
      let below = filter (λ w. is_code_at_or_below q w.code) ws in
      let any = list_any (λ w. is_code_at_or_below q w.code && has_imputed (own w.code)) ws in
      let whole = and_first (is_none (lack_at own listed w.code)) (are_whole own listed ws) h in
      let same : f w ≡ cond (has_imputed (own w.code)) 1 0 =
      ap (λ b. cond b (cond (has_imputed (own w.code)) 1 0) 0) whole in
      let rest = flags_whole q ws (and_second (is_none (lack_at own listed w.code)) (are_whole own listed ws) h) in
      elim (is_code_at_or_below q w.code) as (λ b. ltb 0 (sum_by f (cond b (w ∷ below) below)) ≡
      ((b && has_imputed (own w.code)) || any)) [
        | true ↦ flag_more (has_imputed (own w.code)) (sum_by f below) (sum_by f (w ∷ below)) (f w) any same
            (sum_by-cons f w below) rest
        | false ↦ rest
      ]

pub summed : (plan : Plan) (rows : List Row) (listed : Code → Bool) (pass : Pass) →
    IsPassed (λ e. sample_rows plan e rows) listed plan.weights pass →
    are_whole (λ e. sample_rows plan e rows) listed plan.weights ≡ true → IsSummed plan rows pass
summed plan rows listed pass p whole =
    let own : Code → List Row = λ e. sample_rows plan e rows in
    record {
      sums = λ q. p.sums q ∙ sums_whole own listed q plan.weights whole;
      least = λ q. rw (p.sums q ∙ sums_whole own listed q plan.weights whole)
          (sums_least own listed q plan.weights whole);
      flags = λ q. ap (ltb 0) (p.flags q) ∙ flags_whole own listed q plan.weights whole;
    }
