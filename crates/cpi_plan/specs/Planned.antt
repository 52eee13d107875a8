-- A year's plan as a function of the rows that the desk sends: the plan, or the first fault.
use Rattle.std.specs.Prelude.{ℕ, ◌==◌, Bool, true, ◌&&◌, not, List, [], ◌∷◌, map, filter, Option, Some, None, Result}
use Rattle.std.specs.Prelude.{Ok, Err, if◌then◌else◌}
use Rattle.std.specs.declared.cmp.Ordering.{Ordering}
use Rattle.std.specs.Ordering.{nat_cmp, is_gt}
use Rattle.std.specs.List.{list_any, flat_map}
use Rattle.cpi_codes.specs.CodeOrder.{code_cmp, is_same_code}
use Rattle.cpi_codes.specs.CodePath.{path}
use Rattle.cpi_codes.specs.declared.codes.Code.{Code}
use Rattle.cpi_rows.specs.Keyed.{with_row}
use Rattle.cpi_plan.specs.declared.limits.TheConstants.{ALL_PARTS}
use Rattle.cpi_plan.specs.Sums.{is_node}
use Rattle.cpi_plan.specs.Plan.{Body, Plan, node_of_title, are_all_elementary, has_zero_weight, total_weight}
use Rattle.cpi_plan.specs.Plan.{is_untitled, has_unknown_item}
use Rattle.cpi_plan.specs.Plan.{is_same_item, has_unplaced_item, has_fit_reference, reference_in}
use Rattle.cpi_plan.specs.declared.plan_rows.Title.{Title}
use Rattle.cpi_plan.specs.declared.plan_rows.Weight.{Weight}
use Rattle.cpi_plan.specs.declared.plan_rows.Place.{Place}
use Rattle.cpi_plan.specs.declared.plan_rows.Node.{Node}
use Rattle.cpi_plan.specs.declared.plan_faults.PlanFault.{PlanFault}
use Rattle.cpi_plan.specs.declared.plan_faults.PlanFault.TheVariants.{DuplicateCode, NotElementary, ZeroWeight}
use Rattle.cpi_plan.specs.declared.plan_faults.PlanFault.TheVariants.{WeightSum, TitleMissing, UnknownItem, ItemTwice}
use Rattle.cpi_plan.specs.declared.plan_faults.PlanFault.TheVariants.{UnknownAggregate, Reference}

-- no row is the same as a later one
abbrev pub are_distinct : {X : Type 0} → (X → X → Bool) → List X → Bool
are_distinct same [] = true
are_distinct same (x ∷ xs) = not (list_any (same x) xs) && are_distinct same xs

-- no code twice among the titles, and none twice among the weights
abbrev pub are_codes_once : List Title → List Weight → Bool
are_codes_once titles weights = are_distinct (λ s t. is_same_code s.code t.code) titles
    && are_distinct (λ v w. is_same_code v.code w.code) weights

abbrev pub are_items_once : List Place → Bool
are_items_once places = are_distinct (λ p q. is_same_item p.item q.item) places

-- the lesser of a code and another, if there is another
abbrev pub lesser : Code → Option Code → Code
lesser c None = c
lesser c (Some d) = if is_gt (code_cmp c d) then d else c

-- the first of codes in the order of codes
abbrev pub first_of : List Code → Option Code
first_of [] = None
first_of (c ∷ cs) = Some (lesser c (first_of cs))

-- the first node without a title: nodes are the codes at and above those with weight
abbrev pub first_untitled : List Title → List Weight → Option Code
first_untitled titles weights = first_of (filter (is_untitled titles weights) (flat_map (λ w. path w.code) weights))

-- the rows, put in the order of a key one by one
abbrev pub rows_in_order : {X K : Type 0} → (K → K → Ordering) → (X → K) → List X → List X
rows_in_order cmp key [] = []
rows_in_order cmp key (x ∷ xs) = with_row cmp key x (rows_in_order cmp key xs)

-- the titles of nodes, each with its weight
abbrev pub nodes_of : List Title → List Weight → List Node
nodes_of titles weights = map (node_of_title weights) (filter (λ t. is_node weights t.code) titles)

-- the plan of the rows that were sent: titles of codes that are no nodes are dropped
abbrev pub plan_from_body : ℕ → Body → Plan
plan_from_body year b = record {
  year = year;
  nodes = rows_in_order code_cmp (λ n. n.code) (nodes_of b.titles b.weights);
  weights = rows_in_order code_cmp (λ w. w.code) b.weights;
  places = rows_in_order nat_cmp (λ p. p.item) b.places;
  reference = reference_in b.references;
}

-- the tests of the places and of the reference month, the last ones
abbrev pub plan_if_placed : ℕ → Body → Result Plan PlanFault
plan_if_placed year b =
    if has_unknown_item b.known b.places then Err UnknownItem else
    if not (are_items_once b.places) then Err ItemTwice else
    if has_unplaced_item b.weights b.places then Err UnknownAggregate else
    if not (has_fit_reference year b.references) then Err Reference else
    Ok (plan_from_body year b)

-- the test of the titles, and those after it
abbrev pub plan_if_titled : ℕ → Body → Option Code → Result Plan PlanFault
plan_if_titled year b (Some code) = Err (TitleMissing code)
plan_if_titled year b None = plan_if_placed year b

-- the plan, or the first fault of the rows that were sent
abbrev pub plan_or_fault : ℕ → Body → Result Plan PlanFault
plan_or_fault year b =
    if not (are_codes_once b.titles b.weights) then Err DuplicateCode else
    if not (are_all_elementary b.weights b.places) then Err NotElementary else
    if has_zero_weight b.weights then Err ZeroWeight else
    if not (total_weight b.weights == ALL_PARTS) then Err (WeightSum (total_weight b.weights)) else
    plan_if_titled year b (first_untitled b.titles b.weights)
