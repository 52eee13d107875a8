-- Sums of weights at and below a code.
use Rattle.std.specs.Prelude.{ℕ, Bool, List, unwrap_or, filter, sum_by}
use Rattle.std.specs.List.{list_any}
use Rattle.std.specs.BTreeMap.{BTreeMap, get}
use Rattle.cpi_codes.specs.CodeOrder.{code_cmp}
use Rattle.cpi_codes.specs.CodeText.{is_code_at_or_below}
use Rattle.cpi_codes.specs.declared.codes.Code.{Code}
use Rattle.cpi_plan.specs.declared.plan_rows.Weight.{Weight}

-- what a map of sums has at a code
abbrev pub sum_at : BTreeMap Code ℕ → Code → ℕ
sum_at sums node = unwrap_or (get code_cmp sums node) 0

-- the sum of the weights of the aggregates that are the code or below it
abbrev pub weight_under : Code → List Weight → ℕ
weight_under code weights = sum_by (λ w. w.parts) (filter (λ w. is_code_at_or_below code w.code) weights)

-- a node is an aggregate with weight or a code above one
abbrev pub is_node : List Weight → Code → Bool
is_node weights code = list_any (λ w. is_code_at_or_below code w.code) weights
