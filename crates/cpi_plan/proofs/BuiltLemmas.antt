-- A plan of rows in order is the plan of the same rows in any order.
use Rattle.std.proofs.Common.{◌≡◌, ℕ, cond, List, Option, Some, None, Result, Ok, Err, refl, sym, ap, ◌∙◌, ◌&&◌, not}
use Rattle.std.proofs.Common.{◌==◌}
use Rattle.std.specs.Prelude.{option_map}
use Rattle.std.specs.List.{list_any, list_all}
use Rattle.std.specs.List.Sorted.{IsPermutation}
use Rattle.std.proofs.lemmas.List.Sorted.{list_any-IsPermutation, sum_by-IsPermutation, IsPermutation-refl}
use Rattle.std.proofs.lemmas.List.Sorted.{IsPermutation-trans}
use Rattle.cpi_codes.specs.CodeOrder.{code_cmp, is_same_code, is_code_elementary}
use Rattle.cpi_codes.specs.CodeText.{is_code_at_or_below}
use Rattle.cpi_codes.specs.declared.codes.Code.{Code}
use Rattle.cpi_plan.specs.declared.items.Item.{Item}
use Rattle.cpi_codes.specs.contracts.codes.CodeOrd.TheImpl.Laws.{total-law}
use Rattle.cpi_rows.specs.Keyed.{row_at, IsInOrder}
use Rattle.cpi_plan.specs.declared.plan_rows.Title.{Title}
use Rattle.cpi_plan.specs.declared.plan_rows.Weight.{Weight}
use Rattle.cpi_plan.specs.declared.plan_rows.Place.{Place}
use Rattle.cpi_plan.specs.declared.plan_rows.Node.{Node}
use Rattle.cpi_plan.specs.declared.plan_faults.PlanFault.{PlanFault}
use Rattle.cpi_plan.specs.declared.plan_faults.PlanFault.TheVariants.{DuplicateCode, NotElementary, ZeroWeight}
use Rattle.cpi_plan.specs.declared.plan_faults.PlanFault.TheVariants.{WeightSum, TitleMissing, UnknownItem, ItemTwice}
use Rattle.cpi_plan.specs.declared.plan_faults.PlanFault.TheVariants.{UnknownAggregate, Reference, NoMemory}
use Rattle.cpi_plan.specs.Sums.{is_node}
use Rattle.cpi_plan.specs.Plan.{IsOnePlan, Body, Plan, IsBuilt, IsFirstFault, Passes2, Passes3, Passes4, Passes5}
use Rattle.cpi_plan.specs.Plan.{Passes6, Passes7, Passes8, Passes9, CodesOnce, are_all_elementary, has_zero_weight}
use Rattle.cpi_plan.specs.Plan.{total_weight}
use Rattle.cpi_plan.specs.Plan.{is_untitled, has_unplaced_item, node_of_code, node_of_title}
use Rattle.cpi_plan.proofs.OnceLemmas.{once_from_order}
use Rattle.cpi_plan.proofs.UnderLemmas.{any_agree}
use Rattle.cpi_plan.proofs.MovedLemmas.{all_moved, weight_moved}
use Rattle.cpi_plan.proofs.NodeLemmas.{row_moved, plan_with}
use Rattle.cpi_plan.proofs.SameLemmas.{same_rows}
use Rattle.std.proofs.lemmas.Cmp.{nat_cmp_total as item-law}

codes_once : (titles moved : List Title) (weights placed : List Weight) → IsPermutation titles moved →
    IsPermutation weights placed → IsInOrder code_cmp (λ t. t.code) moved → IsInOrder code_cmp (λ w. w.code) placed →
    CodesOnce titles weights
codes_once titles moved weights placed m n s t = (
  once_from_order total-law (λ x. x.code) titles moved m s,
  once_from_order total-law (λ x. x.code) weights placed n t,
)

-- rows in the order of their codes have no code twice
pub ordered_codes_come_once : (titles : List Title) (weights : List Weight) → IsInOrder code_cmp (λ t. t.code) titles →
    IsInOrder code_cmp (λ w. w.code) weights → CodesOnce titles weights
ordered_codes_come_once titles weights s t =
    codes_once titles titles weights weights (IsPermutation-refl titles) (IsPermutation-refl weights) s t

module _ (year : ℕ) (known : List Item) (titles moved : List Title) (weights placed : List Weight)
    (places : List Place) (references : List ℕ) (m : IsPermutation titles moved) (n : IsPermutation weights placed)
    (s : IsInOrder code_cmp (λ t. t.code) moved) (t : IsInOrder code_cmp (λ w. w.code) placed) where
  abbrev given : Body
  given = record { known = known; titles = titles; weights = weights; places = places; references = references }

  abbrev ordered : Body
  ordered = record { known = known; titles = moved; weights = placed; places = places; references = references }

  once : CodesOnce titles weights
  once = codes_once titles moved weights placed m n s t

  elementary : are_all_elementary weights places ≡ are_all_elementary placed places
  elementary = ap (λ b. b && list_all (λ p. is_code_elementary p.aggregate) places)
      (all_moved (λ w. is_code_elementary w.code) weights placed n)

  zero : has_zero_weight weights ≡ has_zero_weight placed
  zero = list_any-IsPermutation (λ w. w.parts == 0) weights placed n

  sum : total_weight placed ≡ total_weight weights
  sum = sum_by-IsPermutation (λ w. w.parts) weights placed n

  node_moved : (q : Code) → is_node weights q ≡ is_node placed q
  node_moved q = list_any-IsPermutation (λ w. is_code_at_or_below q w.code) weights placed n

  untitled : (q : Code) → is_untitled titles weights q ≡ is_untitled moved placed q
  untitled q = rw (node_moved q, list_any-IsPermutation (λ x. is_same_code x.code q) titles moved m) refl

  unplaced : has_unplaced_item weights places ≡ has_unplaced_item placed places
  unplaced = any_agree (λ p. not (list_any (λ w. is_same_code w.code p.aggregate) weights))
      (λ p. not (list_any (λ w. is_same_code w.code p.aggregate) placed))
      (λ p. ap not (list_any-IsPermutation (λ w. is_same_code w.code p.aggregate) weights placed n)) places

  node_agree : (o : Option Title) → option_map (node_of_title placed) o ≡ option_map (node_of_title weights) o
  node_agree None = refl
  node_agree (Some x) = ap (λ k. Some (record { code = x.code; title = x.title; weight = k }))
      (weight_moved x.code weights placed n)

  row_agree : (q : Code) → node_of_code moved placed q ≡ node_of_code titles weights q
  row_agree q =
      ap (λ b. cond b (option_map (node_of_title placed) (row_at code_cmp (λ x. x.code) q moved)) None)
      (sym (node_moved q))
      ∙ ap (λ o. cond (is_node weights q) o None) (node_agree (row_at code_cmp (λ x. x.code) q moved))
      ∙ ap (λ r. cond (is_node weights q) (option_map (node_of_title weights) r) None)
      (row_moved total-law (λ x. x.code) q titles moved m s)

  pass2 : Passes2 ordered → Passes2 given
  pass2 p = (once, elementary ∙ p.1)

  pass3 : Passes3 ordered → Passes3 given
  pass3 p = (pass2 p.0, zero ∙ p.1)

  pass4 : Passes4 ordered → Passes4 given
  pass4 p = (pass3 p.0, sym sum ∙ p.1)

  pass5 : Passes5 ordered → Passes5 given
  pass5 p = (pass4 p.0, λ q. untitled q ∙ p.1 q)

  pass6 : Passes6 ordered → Passes6 given
  pass6 p = (pass5 p.0, p.1)

  pass7 : Passes7 ordered → Passes7 given
  pass7 p = (pass6 p.0, p.1)

  pass8 : Passes8 ordered → Passes8 given
  pass8 p = (pass7 p.0, unplaced ∙ p.1)

  pass9 : Passes9 year ordered → Passes9 year given
  pass9 p = (pass8 p.0, p.1)

  fault_moved : (f : PlanFault) → IsFirstFault year f ordered → IsFirstFault year f given
  fault_moved DuplicateCode h = absurd (h (ordered_codes_come_once moved placed s t))
  fault_moved NotElementary h = (once, elementary ∙ h.1)
  fault_moved ZeroWeight h = (pass2 h.0, zero ∙ h.1)
  fault_moved (WeightSum found) h = (pass3 h.0, h.1 ∙ sum, h.2)
  fault_moved (TitleMissing code) h = (
    pass4 h.0,
    (untitled code ∙ h.1.0, λ other w. h.1.1 other (sym (untitled other) ∙ w)),
  )
  fault_moved UnknownItem h = (pass5 h.0, h.1)
  fault_moved ItemTwice h = (pass6 h.0, h.1)
  fault_moved UnknownAggregate h = (pass7 h.0, unplaced ∙ h.1)
  fault_moved Reference h = (pass8 h.0, h.1)
  fault_moved NoMemory h = tt

  pub built_moved : (r : Result Plan PlanFault) → IsBuilt year ordered r → IsBuilt year given r
  built_moved (Ok plan) h = (
    pass9 h.0,
    record {
      of_year = h.1.of_year;
      has_nodes = λ q. h.1.has_nodes q ∙ row_agree q;
      has_weights = IsPermutation-trans weights placed plan.weights n h.1.has_weights;
      has_places = h.1.has_places;
      has_reference = h.1.has_reference;
    },
  )
  built_moved (Err f) h = fault_moved f h

parts_are : (y z : ℕ) (ws vs : List Weight) (ps qs : List Place) (r s : Option ℕ) (ns ms : List Node) → y ≡ z →
    ws ≡ vs → ps ≡ qs → r ≡ s → ns ≡ ms → plan_with y ws ps r ns ≡ plan_with z vs qs s ms
parts_are y z ws vs ps qs r s ns ms a b c d e = rw (a, b, c, d, e) refl

pub plan_is : (p q : Plan) → p.year ≡ q.year → p.nodes ≡ q.nodes → p.weights ≡ q.weights → p.places ≡ q.places →
    p.reference ≡ q.reference → p ≡ q
plan_is p q a b c d e = parts_are p.year q.year p.weights q.weights p.places q.places p.reference q.reference p.nodes
    q.nodes a c d e b

pub one_plan : (year : ℕ) (b : Body) → IsOnePlan year b
one_plan year b p q v w f g =
    plan_is p q (f.of_year ∙ sym g.of_year)
    (same_rows total-law (λ n. n.code) p.nodes q.nodes v.nodes_in_order w.nodes_in_order
    (λ k. f.has_nodes k ∙ sym (g.has_nodes k)))
    (same_rows total-law (λ x. x.code) p.weights q.weights v.weights_in_order w.weights_in_order
    (λ k. row_moved total-law (λ x. x.code) k b.weights p.weights f.has_weights v.weights_in_order
    ∙ sym (row_moved total-law (λ x. x.code) k b.weights q.weights g.has_weights w.weights_in_order)))
    (same_rows item-law (λ x. x.item) p.places q.places v.places_in_order w.places_in_order
    (λ k. row_moved item-law (λ x. x.item) k b.places p.places f.has_places v.places_in_order
    ∙ sym (row_moved item-law (λ x. x.item) k b.places q.places g.has_places w.places_in_order)))
    (f.has_reference ∙ sym g.has_reference)
