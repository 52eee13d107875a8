-- A plan by its nodes, places and reference month, as a store keeps it: its weights are those of the elementary nodes.
use Rattle.std.specs.Prelude.{ℕ, ◌==◌, Bool, ◌&&◌, not, List, map, filter, Option}
use Rattle.std.specs.List.{list_any, list_all}
use Rattle.cpi_codes.specs.CodeOrder.{is_same_code, is_code_elementary}
use Rattle.cpi_codes.specs.CodePath.{path}
use Rattle.cpi_plan.specs.declared.limits.TheConstants.{ALL_PARTS}
use Rattle.cpi_plan.specs.Sums.{weight_under, is_node}
use Rattle.cpi_plan.specs.Plan.{Plan, has_zero_weight, total_weight, has_unplaced_item, is_fit_reference}
use Rattle.cpi_plan.specs.declared.plan_rows.Weight.{Weight}
use Rattle.cpi_plan.specs.declared.plan_rows.Place.{Place}
use Rattle.cpi_plan.specs.declared.plan_rows.Node.{Node}

abbrev pub weight_of : Node → Weight
weight_of n = record { code = n.code; parts = n.weight }

abbrev pub weights_in : List Node → List Weight
weights_in nodes = map weight_of (filter (λ n. is_code_elementary n.code) nodes)

abbrev pub plan_from : ℕ → List Node → List Place → Option ℕ → Plan
plan_from year nodes places reference = record {
  year = year;
  nodes = nodes;
  weights = weights_in nodes;
  places =
      places;
  reference = reference;
}

-- a node with its sum
abbrev pub is_weighed : List Weight → Node → Bool
is_weighed weights n = is_node weights n.code && n.weight == weight_under n.code weights

-- whether each code at or above a weight is a node
abbrev pub is_complete : Plan → Bool
is_complete p = list_all (λ w. list_all (λ c. list_any (λ n. is_same_code n.code c) p.nodes) (path w.code)) p.weights

-- whether the rows, each list in order, make a plan
abbrev pub is_whole : Plan → Bool
is_whole p = total_weight p.weights == ALL_PARTS && not (has_zero_weight p.weights) && list_all
    (is_weighed p.weights) p.nodes
    && is_complete p && not (has_unplaced_item p.weights p.places) && is_fit_reference p.year p.reference
