-- The samples of a month, each aggregate's rows together.
use Rattle.std.specs.Prelude.{◌≡◌, ℕ, ◌<◌, List, [], Option, None, map, option_map, nat_le, if◌then◌else◌, length}
use Rattle.std.specs.Prelude.{slice_index_or}
use Rattle.std.specs.Global.{Vec}
use Rattle.std.specs.List.{filter_map, cons_option}
use Rattle.cpi_codes.specs.Month.{months_since_2000}
use Rattle.cpi_plan.specs.Plan.{Plan}
use Rattle.cpi_plan.specs.declared.plan_rows.Weight.{Weight}
use Rattle.cpi_index.specs.Carried.{Carried}
use Rattle.cpi_index.specs.Frozen.{Frozen}
use Rattle.cpi_index.specs.Row.{Row}
use Rattle.cpi_index.specs.Month.{row_of_base, sample_rows}
use Rattle.cpi_index.specs.Places.{place_among, place_in}
use Rattle.cpi_index.specs.declared.placed.PlacedRow.{PlacedRow}

-- one list for each weight, in their order
pub record AreGroups (plan : Plan) (rows : List Row) (groups : List (Vec Row)) : Type 0 where
  pub count_is : length groups ≡ length plan.weights
  pub each : (k : ℕ) (w : Weight) (v : Vec Row) → k < length plan.weights →
      (slice_index_or groups k v).items ≡ sample_rows plan (slice_index_or plan.weights k w).code rows

-- ---- steps: bases with the place of their aggregate
-- the place of each item's aggregate among the weights
abbrev pub item_places : Plan → List (Option ℕ)
item_places plan = map (λ p. place_among p.aggregate plan.weights) plan.places

-- the place of the aggregate in whose sample a base is: its last month is January or later, and the plan places the
-- item
abbrev pub base_place : Plan → Carried → Option ℕ
base_place plan b = if nat_le (months_since_2000 plan.year 1) b.last_month then place_in plan b.item else None

-- a row at a place, if there is one
abbrev pub placed_at : Option ℕ → Row → List PlacedRow
placed_at place r = cons_option (option_map (λ k. record { place = k; row = r }) place) []

-- the rows of bases in the month, each with its place; those in no sample are left out
abbrev pub placed_base : Plan → List Carried → List Frozen → Carried → Option PlacedRow
placed_base plan before frozen b =
    option_map (λ k. record { place = k; row = row_of_base before frozen b }) (base_place plan b)

abbrev pub rows_in_samples : Plan → List Carried → List Frozen → List Carried → List PlacedRow
rows_in_samples plan before frozen bases = filter_map (placed_base plan before frozen) bases
