-- The plan or the fault that is built of a body is the one that the definition gives.
use Rattle.std.proofs.Common.{◌≡◌, ◌≢◌, ℕ, Bool, true, false, cond, List, [], ◌∷◌, map, filter, Option, Some, None}
use Rattle.std.proofs.Common.{Result, Ok, Err, IfOk, refl, sym, ap, ◌∙◌, subst, arith, not, ◌==◌}
use Rattle.std.proofs.lemmas.Bool.Decides.{nat_tests}
use Rattle.std.specs.Prelude.{option_map}
use Rattle.std.specs.declared.cmp.Ordering.{Ordering}
use Rattle.std.specs.declared.cmp.Ordering.TheVariants.{Less, Equal, Greater}
use Rattle.std.specs.Ordering.{nat_cmp, is_eq}
use Rattle.std.proofs.lemmas.Cmp.{nat_cmp_total as item-law}
use Rattle.cpi_codes.specs.CodeOrder.{code_cmp, is_same_code}
use Rattle.cpi_codes.specs.declared.codes.Code.{Code}
use Rattle.cpi_codes.specs.contracts.codes.CodeOrd.TheImpl.Laws.{total-law}
use Rattle.cpi_rows.specs.Keyed.{row_at}
use Rattle.cpi_rows.proofs.Truth.{and_first, and_second}
use Rattle.cpi_plan.specs.declared.limits.TheConstants.{ALL_PARTS}
use Rattle.cpi_plan.specs.declared.plan_rows.Title.{Title}
use Rattle.cpi_plan.specs.declared.plan_rows.Weight.{Weight}
use Rattle.cpi_plan.specs.declared.plan_rows.Node.{Node}
use Rattle.cpi_plan.specs.declared.plan_faults.PlanFault.{PlanFault}
use Rattle.cpi_plan.specs.declared.plan_faults.PlanFault.TheVariants.{DuplicateCode, NotElementary, ZeroWeight}
use Rattle.cpi_plan.specs.declared.plan_faults.PlanFault.TheVariants.{WeightSum, TitleMissing, UnknownItem, ItemTwice}
use Rattle.cpi_plan.specs.declared.plan_faults.PlanFault.TheVariants.{UnknownAggregate, Reference, NoMemory}
use Rattle.cpi_plan.specs.Sums.{is_node}
use Rattle.cpi_plan.specs.Plan.{Body, Plan, IsPlan, IsPlanOf, IsBuilt, IsFirstFault, CodesOnce, Passes2, Passes3}
use Rattle.cpi_plan.specs.Plan.{Passes4, Passes5, Passes6, Passes7, Passes8, Passes9, are_all_elementary}
use Rattle.cpi_plan.specs.Plan.{has_zero_weight, total_weight}
use Rattle.cpi_plan.specs.Plan.{has_unknown_item, has_unplaced_item, is_same_item, node_of_code, node_of_title}
use Rattle.cpi_plan.specs.Plan.{has_fit_reference}
use Rattle.cpi_plan.specs.Planned.{are_codes_once, are_items_once, are_distinct, first_untitled, nodes_of}
use Rattle.cpi_plan.specs.Planned.{rows_in_order}
use Rattle.cpi_plan.specs.Planned.{plan_from_body, plan_if_titled, plan_or_fault}
use Rattle.cpi_plan.proofs.InOrder.{distinct, from_distinct, not_distinct, is_in_order, row_in_order}
use Rattle.cpi_plan.proofs.FirstUntitled.{first_untitled_is, none_untitled}
use Rattle.cpi_plan.proofs.UnderLemmas.{same_node}
use Rattle.cpi_plan.proofs.NodeLemmas.{row_moved}
use Rattle.cpi_plan.proofs.SameLemmas.{same_rows}
use Rattle.cpi_plan.proofs.BuiltLemmas.{plan_is}

codes_once : (titles : List Title) (weights : List Weight) → CodesOnce titles weights →
    are_codes_once titles weights ≡ true
codes_once titles weights h = rw (
  distinct (λ s t. is_same_code s.code t.code) titles h.0,
  distinct (λ v w. is_same_code v.code w.code) weights h.1,
) refl

codes_twice : (titles : List Title) (weights : List Weight) → (CodesOnce titles weights → ⊥) →
    are_codes_once titles weights ≡ false
codes_twice titles weights h = cases (are_codes_once titles weights) refl
  where
    cases : (b : Bool) → are_codes_once titles weights ≡ b → b ≡ false
    cases false e = refl
    cases true e = absurd (h (
      from_distinct (λ s t. is_same_code s.code t.code) titles (and_first _ _ e),
      from_distinct (λ v w. is_same_code v.code w.code) weights
          (and_second (are_distinct (λ s t. is_same_code s.code t.code) titles) _ e),
    ))

not_whole : (n : ℕ) → n ≢ ALL_PARTS → (n == ALL_PARTS) ≡ false
not_whole n h = cases (n == ALL_PARTS) refl
  where
    cases : (b : Bool) → (n == ALL_PARTS) ≡ b → b ≡ false
    cases false e = refl
    cases true e = let whole : n ≡ ALL_PARTS = grind (arith, nat_tests) in absurd (h whole)

is_whole : (n : ℕ) → n ≡ ALL_PARTS → (n == ALL_PARTS) ≡ true
is_whole n h = rw h refl

module _ (year : ℕ) (b : Body) where
  abbrev after_sum : Bool → Result Plan PlanFault
  after_sum t = cond (not t) (Err (WeightSum (total_weight b.weights)))
      (plan_if_titled year b (first_untitled b.titles b.weights))

  abbrev after_zero : Bool → Result Plan PlanFault
  after_zero t = cond t (Err ZeroWeight) (after_sum (total_weight b.weights == ALL_PARTS))

  abbrev after_kinds : Bool → Result Plan PlanFault
  after_kinds t = cond (not t) (Err NotElementary) (after_zero (has_zero_weight b.weights))

  abbrev after_codes : Bool → Result Plan PlanFault
  after_codes t = cond (not t) (Err DuplicateCode) (after_kinds (are_all_elementary b.weights b.places))

  abbrev after_referred : Bool → Result Plan PlanFault
  after_referred t = cond (not t) (Err Reference) (Ok (plan_from_body year b))

  abbrev after_placed : Bool → Result Plan PlanFault
  after_placed t = cond t (Err UnknownAggregate) (after_referred (has_fit_reference year b.references))

  abbrev after_items : Bool → Result Plan PlanFault
  after_items t = cond (not t) (Err ItemTwice) (after_placed (has_unplaced_item b.weights b.places))

  abbrev after_known : Bool → Result Plan PlanFault
  after_known t = cond t (Err UnknownItem) (after_items (are_items_once b.places))

  step1 : CodesOnce b.titles b.weights → plan_or_fault year b ≡ after_kinds (are_all_elementary b.weights b.places)
  step1 h = ap after_codes (codes_once b.titles b.weights h)

  step2 : Passes2 b → plan_or_fault year b ≡ after_zero (has_zero_weight b.weights)
  step2 h = step1 h.0 ∙ ap after_kinds h.1

  step3 : Passes3 b → plan_or_fault year b ≡ after_sum (total_weight b.weights == ALL_PARTS)
  step3 h = step2 h.0 ∙ ap after_zero h.1

  step4 : Passes4 b → plan_or_fault year b ≡ plan_if_titled year b (first_untitled b.titles b.weights)
  step4 h = step3 h.0 ∙ ap after_sum (is_whole (total_weight b.weights) h.1)

  step5 : Passes5 b → plan_or_fault year b ≡ after_known (has_unknown_item b.known b.places)
  step5 h = step4 h.0 ∙ ap (plan_if_titled year b) (none_untitled b.titles b.weights h.1)

  step6 : Passes6 b → plan_or_fault year b ≡ after_items (are_items_once b.places)
  step6 h = step5 h.0 ∙ ap after_known h.1

  step7 : Passes7 b → plan_or_fault year b ≡ after_placed (has_unplaced_item b.weights b.places)
  step7 h = step6 h.0 ∙ ap after_items (distinct (λ p q. is_same_item p.item q.item) b.places h.1)

  step8 : Passes8 b → plan_or_fault year b ≡ after_referred (has_fit_reference year b.references)
  step8 h = step7 h.0 ∙ ap after_placed h.1

  step9 : Passes9 year b → plan_or_fault year b ≡ Ok (plan_from_body year b)
  step9 h = step8 h.0 ∙ ap after_referred h.1

  fault_planned : (f : PlanFault) → f ≢ NoMemory → IsFirstFault year f b → plan_or_fault year b ≡ Err f
  fault_planned NoMemory n h = absurd (n refl)
  fault_planned DuplicateCode n h = ap after_codes (codes_twice b.titles b.weights h)
  fault_planned NotElementary n h = step1 h.0 ∙ ap after_kinds h.1
  fault_planned ZeroWeight n h = step2 h.0 ∙ ap after_zero h.1
  fault_planned (WeightSum found) n h = step3 h.0 ∙ ap after_sum
      (not_whole (total_weight b.weights) (λ e. h.2 (h.1 ∙ e)))
      ∙ ap (λ k. Err (WeightSum k)) (sym h.1)
  fault_planned (TitleMissing code) n h = step4 h.0 ∙ ap (plan_if_titled year b)
      (first_untitled_is b.titles b.weights code h.1)
  fault_planned UnknownItem n h = step5 h.0 ∙ ap after_known h.1
  fault_planned ItemTwice n h = step6 h.0 ∙ ap after_items
      (not_distinct (λ p q. is_same_item p.item q.item) b.places h.1)
  fault_planned UnknownAggregate n h = step7 h.0 ∙ ap after_placed h.1
  fault_planned Reference n h = step8 h.0 ∙ ap after_referred h.1

-- ---- the nodes
module _ (weights : List Weight) where
  nodes_step : (q : Code) (t : Title) (ts : List Title) (s : Ordering) (b : Bool) → code_cmp t.code q ≡ s →
      is_node weights t.code ≡ b
      → row_at code_cmp (λ n. n.code) q (nodes_of ts weights) ≡ node_of_code ts weights q
      → row_at code_cmp (λ n. n.code) q (map (node_of_title weights)
      (cond b (t ∷ filter (λ x. is_node weights x.code) ts) (filter (λ x. is_node weights x.code) ts))) ≡ cond
      (is_node weights q) (option_map (node_of_title weights)
      (cond (is_eq s) (Some t) (row_at code_cmp (λ x. x.code) q ts))) None
  nodes_step q t ts Equal true e p h = let same : is_node weights q ≡ true =
      sym (same_node t.code q (ap is_eq e) weights) ∙ p in rw (e, same) refl
  nodes_step q t ts Equal false e p h = let same : is_node weights q ≡ false =
      sym (same_node t.code q (ap is_eq e) weights) ∙ p in h ∙ (rw same refl)
  nodes_step q t ts Less true e p h = rw e h
  nodes_step q t ts Less false e p h = h
  nodes_step q t ts Greater true e p h = rw e h
  nodes_step q t ts Greater false e p h = h

  none_same : (b : Bool) (n : Option Node) → n ≡ cond b n n
  none_same true n = refl
  none_same false n = refl

  node_row : (q : Code) (ts : List Title) → row_at code_cmp (λ n. n.code) q (nodes_of ts weights) ≡ node_of_code ts
      weights q
  node_row q [] = none_same (is_node weights q) None
  node_row q (t ∷ ts) = nodes_step q t ts (code_cmp t.code q) (is_node weights t.code) refl refl (node_row q ts)

-- a plan of a body is the one that is planned
plan_planned : (year : ℕ) (b : Body) (plan : Plan) → IsPlan plan → IsPlanOf year b plan → plan ≡ plan_from_body year b
plan_planned year b plan v f =
    plan_is plan (plan_from_body year b) f.of_year
    (same_rows total-law (λ n. n.code) plan.nodes (rows_in_order code_cmp (λ n. n.code) (nodes_of b.titles b.weights))
    v.nodes_in_order (is_in_order total-law (λ n. n.code) (nodes_of b.titles b.weights))
    (λ k. f.has_nodes k ∙ sym (node_row b.weights k b.titles)
    ∙ sym (row_in_order total-law (λ n. n.code) k (nodes_of b.titles b.weights))))
    (same_rows total-law (λ w. w.code) plan.weights (rows_in_order code_cmp (λ w. w.code) b.weights) v.weights_in_order
    (is_in_order total-law (λ w. w.code) b.weights)
    (λ k. row_moved total-law (λ w. w.code) k b.weights plan.weights f.has_weights v.weights_in_order
    ∙ sym (row_in_order total-law (λ w. w.code) k b.weights)))
    (same_rows item-law (λ p. p.item) plan.places (rows_in_order nat_cmp (λ p. p.item) b.places) v.places_in_order
    (is_in_order item-law (λ p. p.item) b.places)
    (λ k. row_moved item-law (λ p. p.item) k b.places plan.places f.has_places v.places_in_order
    ∙ sym (row_in_order item-law (λ p. p.item) k b.places)))
    f.has_reference

-- the result of building, unless memory was refused, is the one that the definition gives
pub built_planned : (year : ℕ) (b : Body) (r : Result Plan PlanFault) → IsBuilt year b r →
    ((plan : Plan) → r ≡ Ok plan → IsPlan plan) → r ≢ Err NoMemory → r ≡ plan_or_fault year b
built_planned year b (Ok plan) h v n = ap (λ p. Ok p) (plan_planned year b plan (v plan refl) h.1)
    ∙ sym (step9 year b h.0)
built_planned year b (Err f) h v n = sym (fault_planned year b f (λ e. n (ap (λ g. Err g) e)) h)

other_fault : DuplicateCode ≢ NoMemory
other_fault e = cc

pub twice_planned : (year : ℕ) (b : Body) → (CodesOnce b.titles b.weights → ⊥) → Err DuplicateCode ≡
    plan_or_fault year b
twice_planned year b h = sym (fault_planned year b DuplicateCode other_fault h)

pub from_ok : (r : Result Plan PlanFault) → IfOk r IsPlan → (plan : Plan) → r ≡ Ok plan → IsPlan plan
from_ok (Ok p) h plan e = let same : p ≡ plan = cc in subst IsPlan same h
from_ok (Err f) h plan e = cc
