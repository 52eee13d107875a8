-- The steps of building a plan, over sums that are kept for each code.
use Rattle.std.specs.Prelude.{ℕ, ◌≡◌, Bool, true, false, not, ◌&&◌, List, map, filter, nat_lt}
use Rattle.std.specs.List.{list_any}
use Rattle.std.specs.Ordering.{is_gt}
use Rattle.std.specs.BTreeMap.{BTreeMap}
use Rattle.cpi_codes.specs.CodeOrder.{code_cmp, is_same_code}
use Rattle.cpi_codes.specs.declared.codes.Code.{Code}
use Rattle.cpi_plan.specs.Sums.{sum_at}
use Rattle.cpi_plan.specs.declared.plan_rows.Title.{Title}
use Rattle.cpi_plan.specs.declared.plan_rows.Node.{Node}

-- a code with a sum and without a title
abbrev pub is_without : BTreeMap Code ℕ → List Title → Code → Bool
is_without sums titles code = nat_lt 0 (sum_at sums code) && not (list_any (λ t. is_same_code t.code code) titles)

-- the first code of a kind
abbrev pub IsFirstCode : (Code → Bool) → Code → Type 0
IsFirstCode is_wanted code = (is_wanted code ≡ true)
    × ((other : Code) → is_wanted other ≡ true → is_gt (code_cmp code other) ≡ false)

abbrev pub node_with : (Code → ℕ) → Title → Node
node_with weight t = record { code = t.code; title = t.title; weight = weight t.code }

abbrev pub nodes_with : (Code → ℕ) → List Title → List Node
nodes_with weight titles = map (node_with weight) (filter (λ t. nat_lt 0 (weight t.code)) titles)
