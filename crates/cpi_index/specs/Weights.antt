-- Weights in use: a plan's own, or moved by prices from the plan's reference month to its link month.
use Rattle.std.specs.Prelude.{ℕ, ◌*◌, ◌≤◌, Bool, not, ◌&&◌, ◌||◌, List, map, find, Option, None, option_map, unwrap_or}
use Rattle.std.specs.Prelude.{is_none, is_some}
use Rattle.std.specs.Prelude.{nat_le, if◌then◌else◌}
use Rattle.std.specs.Option.{option_or}
use Rattle.std.specs.Cmp.Lexicographic.{pointwise}
use Rattle.cpi_codes.specs.CodeOrder.{code_cmp, is_same_code}
use Rattle.cpi_codes.specs.Rounding.{rounded_quotient}
use Rattle.cpi_codes.specs.declared.codes.Code.{Code}
use Rattle.cpi_rows.specs.Keyed.{row_at}
use Rattle.cpi_plan.specs.Plan.{Plan}
use Rattle.cpi_plan.specs.declared.plan_rows.Weight.{Weight}
use Rattle.cpi_index.specs.declared.level.NodeLevel.{NodeLevel}
use Rattle.cpi_index.specs.declared.weight_levels.WeightLevels.{WeightLevels}
use Rattle.cpi_index.specs.declared.fault.IndexFault.{IndexFault}
use Rattle.cpi_index.specs.declared.fault.IndexFault.TheVariants.{NoReference, OutOfRange}
use Rattle.cpi_index.specs.declared.limits.TheConstants.{MOST_WEIGHT_IN_USE, MOST_NODE_WEIGHT}

-- ---- the limits of an aggregate's weight in use, and of the sum of such weights at and below a node
abbrev pub IsEffective : ℕ → Type 0
IsEffective n = (1 ≤ n) × (n ≤ MOST_WEIGHT_IN_USE)

abbrev pub is_effective : ℕ → Bool
is_effective n = nat_le 1 n && nat_le n MOST_WEIGHT_IN_USE

abbrev pub IsNodeWeight : ℕ → Type 0
IsNodeWeight n = (1 ≤ n) × (n ≤ MOST_NODE_WEIGHT)

-- ---- one weight, with its aggregate's chained levels in the link month and in the reference month
abbrev pub lacks_a_level : WeightLevels → Bool
lacks_a_level w = is_none w.link || is_none w.reference

-- the weight times the level in the link month over the level in the reference month, rounded
abbrev pub updated_weight : ℕ → ℕ → ℕ → ℕ
updated_weight parts link reference = rounded_quotient (parts * link) reference

abbrev pub moved_parts : WeightLevels → ℕ
moved_parts w = updated_weight w.weight.parts (unwrap_or w.link 1) (unwrap_or w.reference 1)

abbrev pub moved_weight : WeightLevels → Weight
moved_weight w = record { code = w.weight.code; parts = moved_parts w }

abbrev pub is_moved_out : WeightLevels → Bool
is_moved_out w = not (is_effective (moved_parts w))

-- ---- all weights of a plan
abbrev pub moved_weights : List WeightLevels → List Weight
moved_weights ws = map moved_weight ws

-- the first fault: no level in one of the two months, then a weight outside the limits
abbrev pub moving_fault : List WeightLevels → Option IndexFault
moving_fault ws =
    option_or (option_map (λ w. NoReference w.weight.code) (find lacks_a_level ws))
    (option_map (λ w. OutOfRange w.weight.code) (find is_moved_out ws))

-- a weight with its aggregate's levels
abbrev pub with_levels : (Code → Option ℕ) → (Code → Option ℕ) → Weight → WeightLevels
with_levels link reference w = record { weight = w; link = link w.code; reference = reference w.code }

-- the weights in use, from the chained levels in the link month and in the reference month
abbrev pub weights_in_use : (Code → Option ℕ) → (Code → Option ℕ) → Plan → List Weight
weights_in_use link reference plan =
    if is_some plan.reference then moved_weights (map (with_levels link reference) plan.weights) else plan.weights

abbrev pub weights_fault : (Code → Option ℕ) → (Code → Option ℕ) → Plan → Option IndexFault
weights_fault link reference plan =
    if is_some plan.reference then moving_fault (map (with_levels link reference) plan.weights) else None

-- the plan with other weights, from which indices are averaged
abbrev pub with_weights : Plan → List Weight → Plan
with_weights plan weights = record plan { weights = weights }

-- the level of an aggregate in a table
abbrev pub level_in : List NodeLevel → Code → Option ℕ
level_in table code = option_map (λ l. l.level) (row_at code_cmp (λ l. l.code) code table)

-- one weight for each of the plan's, in their order
abbrev pub are_weights_in : List Weight → List Weight → Bool
are_weights_in own weights = pointwise (λ a b. is_same_code a.code b.code) own weights
