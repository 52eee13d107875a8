-- A year's plan: the rows that the desk sends for it, their faults, and the plan that is made of them.
use Rattle.std.specs.Prelude.{ℕ, ◌≤◌, ◌≡◌, ◌==◌, ◌≢◌, ◌&&◌, ⊤, Bool, true, false, not, List, [], ◌∷◌, sum_by, nat_lt}
use Rattle.std.specs.Prelude.{Result, MatchResult, Option, Some, None, option_map, is_none, if◌then◌else◌}
use Rattle.std.specs.Option.{option_map_or}
use Rattle.std.specs.Ordering.{nat_cmp, is_eq}
use Rattle.std.specs.List.{list_any, list_all, IsDistinct}
use Rattle.std.specs.List.Sorted.{IsPermutation}
use Rattle.cpi_codes.specs.CodeOrder.{code_cmp, is_same_code, is_code_elementary}
use Rattle.cpi_codes.specs.Month.{year_of}
use Rattle.cpi_codes.specs.declared.codes.Code.{Code}
use Rattle.cpi_plan.specs.declared.limits.TheConstants.{ALL_PARTS}
use Rattle.cpi_plan.specs.declared.items.Item.{Item}
use Rattle.cpi_rows.specs.Keyed.{IsInOrder, row_at, row_by_number}
use Rattle.cpi_plan.specs.Sums.{weight_under, is_node}
use Rattle.cpi_plan.specs.Steps.{IsFirstCode}
use Rattle.cpi_plan.specs.declared.plan_rows.Title.{Title}
use Rattle.cpi_plan.specs.declared.plan_rows.Weight.{Weight}
use Rattle.cpi_plan.specs.declared.plan_rows.Place.{Place}
use Rattle.cpi_plan.specs.declared.plan_rows.Node.{Node}
use Rattle.cpi_plan.specs.declared.plan_faults.PlanFault.{PlanFault}
use Rattle.cpi_plan.specs.declared.plan_faults.PlanFault.TheVariants.{DuplicateCode, NotElementary, ZeroWeight}
use Rattle.cpi_plan.specs.declared.plan_faults.PlanFault.TheVariants.{WeightSum, TitleMissing, UnknownItem, ItemTwice}
use Rattle.cpi_plan.specs.declared.plan_faults.PlanFault.TheVariants.{UnknownAggregate, Reference, NoMemory}

-- the rows that the desk sends, in any order, with the items that are known; references are months
pub record Body : Type 0 where
  pub known : List Item
  pub titles : List Title
  pub weights : List Weight
  pub places : List Place
  pub references : List ℕ

abbrev pub plan_body_of : List Item → List Title → List Weight → List Place → List ℕ → Body
plan_body_of known titles weights places references =
    record { known = known; titles = titles; weights = weights; places = places; references = references }

-- a plan: nodes and weights by code, places by item; with a reference month, the weights are moved by prices from that
-- month to the link month
pub record Plan : Type 0 where
  pub year : ℕ
  pub nodes : List Node
  pub weights : List Weight
  pub places : List Place
  pub reference : Option ℕ

abbrev pub plan_with : ℕ → List Node → List Weight → List Place → Option ℕ → Plan
plan_with year nodes weights places reference =
    record { year = year; nodes = nodes; weights = weights; places = places; reference = reference }

abbrev pub is_same_item : ℕ → ℕ → Bool
is_same_item a b = is_eq (nat_cmp a b)

-- ---- the tests, in the order in which they are made
-- no code twice among the titles, and none twice among the weights
abbrev pub CodesOnce : List Title → List Weight → Type 0
CodesOnce titles weights = IsDistinct (λ s t. is_same_code s.code t.code) titles
    × IsDistinct (λ v w. is_same_code v.code w.code) weights

abbrev pub are_all_elementary : List Weight → List Place → Bool
are_all_elementary weights places = list_all (λ w. is_code_elementary w.code) weights
    && list_all (λ p. is_code_elementary p.aggregate) places

abbrev pub has_zero_weight : List Weight → Bool
has_zero_weight weights = list_any (λ w. w.parts == 0) weights

abbrev pub total_weight : List Weight → ℕ
total_weight weights = sum_by (λ w. w.parts) weights

-- a node without a title
abbrev pub is_untitled : List Title → List Weight → Code → Bool
is_untitled titles weights code = is_node weights code && not (list_any (λ t. is_same_code t.code code) titles)

-- an item that isn't among the known ones
abbrev pub is_unknown_item : List Item → Place → Bool
is_unknown_item known place = is_none (row_by_number (λ i. i.code) place.item known)

abbrev pub has_unknown_item : List Item → List Place → Bool
has_unknown_item known places = list_any (is_unknown_item known) places

abbrev pub ItemsOnce : List Place → Type 0
ItemsOnce places = IsDistinct (λ p q. is_same_item p.item q.item) places

-- an item at an aggregate without weight
abbrev pub has_unplaced_item : List Weight → List Place → Bool
has_unplaced_item weights places = list_any (λ p. not (list_any (λ w. is_same_code w.code p.aggregate) weights)) places

-- a month that a plan's weights may refer to: one before the plan's year, so the link month at the latest
abbrev pub may_refer_to : ℕ → ℕ → Bool
may_refer_to year month = nat_lt (year_of month) year

abbrev pub is_one_at_most : List ℕ → Bool
is_one_at_most [] = true
is_one_at_most (_ ∷ []) = true
is_one_at_most (_ ∷ _ ∷ _) = false

-- no reference month, or one that the weights may refer to
abbrev pub has_fit_reference : ℕ → List ℕ → Bool
has_fit_reference year months = is_one_at_most months && list_all (may_refer_to year) months

-- the reference month, if one was sent
abbrev pub reference_in : List ℕ → Option ℕ
reference_in [] = None
reference_in (month ∷ _) = Some month

-- ---- the tests that are passed, one more each time
abbrev pub Passes2 : Body → Type 0
Passes2 b = CodesOnce b.titles b.weights × (are_all_elementary b.weights b.places ≡ true)

abbrev pub Passes3 : Body → Type 0
Passes3 b = Passes2 b × (has_zero_weight b.weights ≡ false)

abbrev pub Passes4 : Body → Type 0
Passes4 b = Passes3 b × (total_weight b.weights ≡ ALL_PARTS)

abbrev pub Passes5 : Body → Type 0
Passes5 b = Passes4 b × ((code : Code) → is_untitled b.titles b.weights code ≡ false)

abbrev pub Passes6 : Body → Type 0
Passes6 b = Passes5 b × (has_unknown_item b.known b.places ≡ false)

abbrev pub Passes7 : Body → Type 0
Passes7 b = Passes6 b × ItemsOnce b.places

abbrev pub Passes8 : Body → Type 0
Passes8 b = Passes7 b × (has_unplaced_item b.weights b.places ≡ false)

abbrev pub Passes9 : ℕ → Body → Type 0
Passes9 year b = Passes8 b × (has_fit_reference year b.references ≡ true)

-- the first node without a title, in the order of codes
abbrev pub IsFirstUntitled : List Title → List Weight → Code → Type 0
IsFirstUntitled titles weights code = IsFirstCode (is_untitled titles weights) code

-- the fault of a body sent for a year: the first that there is. Memory can be refused at any time.
abbrev pub IsFirstFault : ℕ → PlanFault → Body → Type 0
IsFirstFault year DuplicateCode b = CodesOnce b.titles b.weights → ⊥
IsFirstFault year NotElementary b = CodesOnce b.titles b.weights × (are_all_elementary b.weights b.places ≡ false)
IsFirstFault year ZeroWeight b = Passes2 b × (has_zero_weight b.weights ≡ true)
IsFirstFault year (WeightSum found) b = Passes3 b × (found ≡ total_weight b.weights) × (found ≢ ALL_PARTS)
IsFirstFault year (TitleMissing code) b = Passes4 b × IsFirstUntitled b.titles b.weights code
IsFirstFault year UnknownItem b = Passes5 b × (has_unknown_item b.known b.places ≡ true)
IsFirstFault year ItemTwice b = Passes6 b × (ItemsOnce b.places → ⊥)
IsFirstFault year UnknownAggregate b = Passes7 b × (has_unplaced_item b.weights b.places ≡ true)
IsFirstFault year Reference b = Passes8 b × (has_fit_reference year b.references ≡ false)
IsFirstFault year NoMemory b = ⊤

-- ---- the plan
-- a title with the sum of the weights under its code
abbrev pub node_of_title : List Weight → Title → Node
node_of_title weights t = record { code = t.code; title = t.title; weight = weight_under t.code weights }

-- the row of a code: none of a code that is no node
abbrev pub node_of_code : List Title → List Weight → Code → Option Node
node_of_code titles weights code = if is_node weights code then option_map (node_of_title weights)
    (row_at code_cmp (λ t. t.code) code titles) else None

-- the plan has the nodes, the weights and the places that were sent. That it has them in order is kept by the type.
pub record IsPlanOf (year : ℕ) (b : Body) (plan : Plan) : Type 0 where
  pub of_year : plan.year ≡ year
  pub has_nodes : (code : Code) → row_at code_cmp (λ n. n.code) code plan.nodes ≡ node_of_code b.titles b.weights code
  pub has_weights : IsPermutation b.weights plan.weights
  pub has_places : IsPermutation b.places plan.places
  pub has_reference : plan.reference ≡ reference_in b.references

-- a reference month, if there is one, is one that the weights may refer to
abbrev pub is_fit_reference : ℕ → Option ℕ → Bool
is_fit_reference year reference = option_map_or (may_refer_to year) reference true

-- what every plan keeps
pub record IsPlan (plan : Plan) : Type 0 where
  pub in_calendar : (2000 ≤ plan.year) × (plan.year ≤ 2199)
  pub nodes_in_order : IsInOrder code_cmp (λ n. n.code) plan.nodes
  pub weights_in_order : IsInOrder code_cmp (λ w. w.code) plan.weights
  pub places_in_order : IsInOrder nat_cmp (λ p. p.item) plan.places
  pub elementary : list_all (λ w. is_code_elementary w.code) plan.weights ≡ true
  pub positive : has_zero_weight plan.weights ≡ false
  pub whole : total_weight plan.weights ≡ ALL_PARTS
  -- each node has its title and weight, and each row is a node
  pub complete : (code : Code) → is_node plan.weights code ≡ list_any (λ n. is_same_code n.code code) plan.nodes
  pub weighed : list_all (λ n. n.weight == weight_under n.code plan.weights) plan.nodes ≡ true
  pub placed : has_unplaced_item plan.weights plan.places ≡ false
  pub referred : is_fit_reference plan.year plan.reference ≡ true

-- the plan that is built of a body if no test fails, or the first fault
abbrev pub IsBuilt : ℕ → Body → Result Plan PlanFault → Type 0
IsBuilt year b result = MatchResult result (λ plan. Passes9 year b × IsPlanOf year b plan)
    (λ fault. IsFirstFault year fault b)

-- two plans of one body are the same plan
abbrev pub IsOnePlan : ℕ → Body → Type 0
IsOnePlan year b = (p q : Plan) → IsPlan p → IsPlan q → IsPlanOf year b p → IsPlanOf year b q → p ≡ q

-- two faults of one body are the same fault, refused memory aside
abbrev pub IsOneFault : ℕ → Body → Type 0
IsOneFault year b = (f g : PlanFault) → f ≢ NoMemory → g ≢ NoMemory → IsFirstFault year f b → IsFirstFault year g b →
    f ≡ g
