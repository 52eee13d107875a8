-- The items of a plan that was built are known.
use Rattle.std.proofs.Common.{◌≡◌, ℕ, Bool, false, not, List, [], ◌∷◌, Option, Some, None, Result, Ok, Err, refl}
use Rattle.std.proofs.Common.{ap, ◌∙◌, subst}
use Rattle.std.specs.Prelude.{◌==◌}
use Rattle.std.specs.List.{AllByRecursion, list_any}
use Rattle.std.specs.Ordering.{nat_cmp}
use Rattle.cpi_codes.specs.declared.codes.Code.{Code}
use Rattle.cpi_plan.specs.declared.items.Item.{Item}
use Rattle.cpi_plan.specs.declared.limits.TheConstants.{ALL_PARTS}
use Rattle.cpi_plan.specs.declared.plan_rows.Place.{Place}
use Rattle.cpi_plan.specs.declared.plan_faults.PlanFault.{PlanFault}
use Rattle.cpi_plan.specs.declared.plan_faults.PlanFault.TheVariants.{TitleMissing, DuplicateCode, NotElementary}
use Rattle.cpi_plan.specs.declared.plan_faults.PlanFault.TheVariants.{ZeroWeight, WeightSum, UnknownItem, ItemTwice}
use Rattle.cpi_plan.specs.declared.plan_faults.PlanFault.TheVariants.{UnknownAggregate, Reference}
use Rattle.cpi_plan.specs.Plan.{Body, Plan, is_unknown_item, has_unknown_item, has_unplaced_item, has_zero_weight}
use Rattle.cpi_plan.specs.Plan.{are_all_elementary, total_weight}
use Rattle.cpi_plan.specs.Plan.{has_fit_reference}
use Rattle.cpi_plan.specs.Planned.{plan_or_fault, are_codes_once, are_items_once, plan_if_placed, plan_if_titled}
use Rattle.cpi_plan.specs.Planned.{plan_from_body, rows_in_order}
use Rattle.cpi_plan.specs.Planned.{first_untitled}
use Rattle.cpi_office.specs.Replacing.{plan_standing}
use Rattle.cpi_office.specs.declared.standing.Standing.{Standing}
use Rattle.cpi_rows.proofs.Lists.{all_put}
use Rattle.cpi_rows.proofs.Truth.{or_false_first, or_false_second}
use Rattle.cpi_office.proofs.Judged.{passed}

none_is : {X : Type 0} (p : X → Bool) (xs : List X) → list_any p xs ≡ false → AllByRecursion (λ x. p x ≡ false) xs
none_is p [] h = tt
none_is p (x ∷ xs) h = (or_false_first (p x) (list_any p xs) h, none_is p xs (or_false_second (p x) (list_any p xs) h))

is_none_of : {X : Type 0} (p : X → Bool) (xs : List X) → AllByRecursion (λ x. p x ≡ false) xs → list_any p xs ≡ false
is_none_of p [] h = refl
is_none_of p (x ∷ xs) h = rw h.0 (is_none_of p xs h.1)

module _ (known : List Item) where
  all_known : (places : List Place) → AllByRecursion (λ p. is_unknown_item known p ≡ false) places →
      AllByRecursion (λ p. is_unknown_item known p ≡ false) (rows_in_order nat_cmp (λ p. p.item) places)
  all_known [] h = tt
  all_known (p ∷ ps) h = all_put (λ p. is_unknown_item known p ≡ false) nat_cmp (λ p. p.item) p _ h.0 (all_known ps h.1)

  known_in_order : (places : List Place) → has_unknown_item known places ≡ false →
      has_unknown_item known (rows_in_order nat_cmp (λ p. p.item) places) ≡ false
  known_in_order places h = is_none_of (is_unknown_item known) _
      (all_known places (none_is (is_unknown_item known) places h))

abbrev value_or : {A E : Type 0} → A → Result A E → A
value_or x (Ok y) = y
value_or x (Err f) = x

placed_known : (year : ℕ) (b : Body) (p : Plan) → plan_if_placed year b ≡ Ok p →
    has_unknown_item b.known p.places ≡ false
placed_known year b p h =
    let one = passed (has_unknown_item b.known b.places) UnknownItem _ p h in
    let two = passed (not (are_items_once b.places)) ItemTwice _ p one.1 in
    let three = passed (has_unplaced_item b.weights b.places) UnknownAggregate _ p two.1 in
    let four = passed (not (has_fit_reference year b.references)) Reference _ p three.1 in
    let is : plan_from_body year b ≡ p = ap (value_or p) four.1 in
    subst (λ (q : Plan). has_unknown_item b.known q.places ≡ false) is (known_in_order b.known b.places one.0)

titled_known : (year : ℕ) (b : Body) (p : Plan) (code : Option Code) → plan_if_titled year b code ≡ Ok p →
    has_unknown_item b.known p.places ≡ false
titled_known year b p (Some code) h = let no : Err (TitleMissing code) ≡ Ok p = h in cc
titled_known year b p None h = placed_known year b p h

pub planned_known : (year : ℕ) (b : Body) (p : Plan) → plan_or_fault year b ≡ Ok p →
    has_unknown_item b.known p.places ≡ false
planned_known year b p h =
    let one = passed (not (are_codes_once b.titles b.weights)) DuplicateCode _ p h in
    let two = passed (not (are_all_elementary b.weights b.places)) NotElementary _ p one.1 in
    let three = passed (has_zero_weight b.weights) ZeroWeight _ p two.1 in
    let four = passed (not (total_weight b.weights == ALL_PARTS)) (WeightSum (total_weight b.weights)) _ p three.1 in
    titled_known year b p (first_untitled b.titles b.weights) four.1

-- the same of a plan that was judged
pub judged_known : (year : ℕ) (b : Body) (plans : List Plan) (p : Plan) (s : Standing) →
    plan_standing plans (plan_or_fault year b) ≡ Ok (p, s) → has_unknown_item b.known p.places ≡ false
judged_known year b plans p s h = cases (plan_or_fault year b) refl h
  where
    cases : (r : Result Plan PlanFault) → plan_or_fault year b ≡ r → plan_standing plans r ≡ Ok (p, s) →
        has_unknown_item b.known p.places ≡ false
    cases (Err f) e h = let no : plan_standing plans (Err f) ≡ Ok (p, s) = h in cc
    cases (Ok q) e h = let is : q ≡ p = ap (λ (r : Result (Plan × Standing) PlanFault). (value_or (p, s) r).0) h in
        planned_known year b p (e ∙ ap Ok is)
