-- Releases of earlier months, and the rows that a month reads from them.
use Rattle.std.specs.Prelude.{ℕ, ◌*◌, ◌-◌, ◌/◌, ◌%◌, ◌==◌, Bool, List, [], Option, Some, option_map, option_and_then}
use Rattle.std.specs.Prelude.{unwrap_or}
use Rattle.std.specs.Prelude.{if◌then◌else◌}
use Rattle.std.specs.Option.{option_map_or}
use Rattle.cpi_codes.specs.CodeOrder.{code_cmp}
use Rattle.cpi_codes.specs.declared.codes.Code.{Code}
use Rattle.cpi_rows.specs.Keyed.{row_at}
use Rattle.cpi_plan.specs.Plan.{Plan}
use Rattle.cpi_index.specs.Carried.{Carried}
use Rattle.cpi_index.specs.Frozen.{Frozen}
use Rattle.cpi_index.specs.Row.{Row}
use Rattle.cpi_index.specs.Sample.{bases_in_year}
use Rattle.cpi_index.specs.Level.{link_level_of}
use Rattle.cpi_index.specs.Month.{rows_of_month}
use Rattle.cpi_index.specs.Weights.{weights_in_use, weights_fault, with_weights}
use Rattle.cpi_index.specs.declared.fault.IndexFault.{IndexFault}
use Rattle.cpi_release.specs.Latest.{latest_row}
use Rattle.cpi_release.specs.declared.level.Level.{Level}
use Rattle.cpi_release.specs.declared.release.Release.{Release}

-- ---- months
-- December of the year before a month's
abbrev pub link_month : ℕ → ℕ
link_month month = 12 * (month / 12) - 1

abbrev pub is_january : ℕ → Bool
is_january month = month % 12 == 0

abbrev pub is_december : ℕ → Bool
is_december month = month % 12 == 11

-- ---- the rows of the releases
-- the latest release of a month, by which every earlier month is read
abbrev pub latest_release : List Release → ℕ → Option Release
latest_release releases month = latest_row (λ r. r.month) month releases

abbrev pub frozen_of : List Release → ℕ → List Frozen
frozen_of releases month = option_map_or (λ r. r.frozen) (latest_release releases month) []

abbrev pub carried_of : List Release → ℕ → List Carried
carried_of releases month = option_map_or (λ r. r.carried) (latest_release releases month) []

abbrev pub levels_of : List Release → ℕ → List Level
levels_of releases month = option_map_or (λ r. r.levels) (latest_release releases month) []

-- the chained level of a node in a month's table
abbrev pub level_at_month : List Release → ℕ → Code → Option ℕ
level_at_month releases month node =
    option_map (λ l. l.chained) (row_at code_cmp (λ l. l.code) node (levels_of releases month))

-- ---- the weights in use
-- the chained level of a node in the table of a plan's reference month
abbrev pub reference_level : List Release → Plan → Code → Option ℕ
reference_level releases plan node = option_and_then (λ month. level_at_month releases month node) plan.reference

-- the plan by which a month is averaged: with a reference month, its weights are moved by prices from that month to the
-- link month
abbrev pub plan_in_use : Plan → List Release → ℕ → Plan
plan_in_use plan releases month =
    with_weights plan (weights_in_use (level_at_month releases (link_month month)) (reference_level releases plan) plan)

-- why a month has no weights in use, if so
abbrev pub weights_fault_in : Plan → List Release → ℕ → Option IndexFault
weights_fault_in plan releases month =
    weights_fault (level_at_month releases (link_month month)) (reference_level releases plan) plan

-- ---- the sample of a month
abbrev pub bases_in : Plan → List Release → ℕ → List Carried
bases_in plan releases month = let december = link_month month in
    bases_in_year plan (carried_of releases december) (frozen_of releases december)

-- the carried prices of the month before: in January the bases
abbrev pub before_in : Plan → List Release → ℕ → List Carried
before_in plan releases month =
    if is_january month then bases_in plan releases month else carried_of releases (month - 1)

-- one row for each base, by series
abbrev pub rows_of_bases : Plan → List Release → ℕ → List Frozen → List Row
rows_of_bases plan releases month frozen = rows_of_month (bases_in plan releases month)
    (before_in plan releases month) frozen

-- ---- the levels that a month's level is linked to and compared with
-- the link level of a node, by its chained level in the link month
abbrev pub link_of : List Release → ℕ → Code → ℕ
link_of releases month node = link_level_of (level_at_month releases (link_month month) node)

-- the level that the monthly change is from: in January the link level
abbrev pub month_before : List Release → ℕ → Code → ℕ
month_before releases month node =
    let link = link_of releases month node in
    if is_january month then link else unwrap_or (level_at_month releases (month - 1) node) link

-- the level that the annual change is from: in December the link level, else that of twelve months before, if there
-- is one
abbrev pub year_before : List Release → ℕ → Code → Option ℕ
year_before releases month node =
    if is_december month then Some (link_of releases month node) else level_at_month releases (month - 12) node
