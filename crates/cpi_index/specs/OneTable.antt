-- One table: whether taken from lists of carried prices and of indices, or from the rows of each aggregate's sample.
use Rattle.std.specs.Prelude.{◌≡◌, List}
use Rattle.std.specs.List.{AllByRecursion}
use Rattle.cpi_codes.specs.CodeOrder.{code_cmp}
use Rattle.cpi_codes.specs.declared.codes.Code.{Code}
use Rattle.cpi_rows.specs.Keyed.{IsInOrder}
use Rattle.cpi_plan.specs.Plan.{Plan}
use Rattle.cpi_index.specs.Carried.{Carried}
use Rattle.cpi_index.specs.Frozen.{Frozen}
use Rattle.cpi_index.specs.Row.{Row}
use Rattle.cpi_index.specs.Month.{rows_of_month, sample_rows, carried_in_month}
use Rattle.cpi_index.specs.Indices.{elementary_index, elementary_indices}
use Rattle.cpi_index.specs.Means.{mean_index, upper_index}
use Rattle.cpi_index.specs.Group.{group_index}

-- each series has the item that it had at its base
abbrev pub KeepItems : List Row → Type 0
KeepItems rows = AllByRecursion (λ (r : Row). r.before.item ≡ r.link.item) rows

-- the index of an aggregate from the year's bases and the month's carried prices is that of its sample's rows
abbrev pub IndicesAreOfRows : Type 0
IndicesAreOfRows = (plan : Plan) (bases before : List Carried) (frozen : List Frozen) →
    let rows = rows_of_month bases before frozen in KeepItems rows → (aggregate : Code) →
    elementary_index plan bases (carried_in_month plan rows) aggregate ≡ group_index (sample_rows plan aggregate rows)

-- so is the mean of each node, by whatever weights, if they are in code order
abbrev pub MeansAreOfRows : Type 0
MeansAreOfRows = (plan : Plan) → IsInOrder code_cmp (λ w. w.code) plan.weights →
    (bases before : List Carried) (frozen : List Frozen) →
    let rows = rows_of_month bases before frozen in KeepItems rows → (node : Code) →
    upper_index plan (elementary_indices plan bases (carried_in_month plan rows)) node
    ≡ mean_index plan (λ e. group_index (sample_rows plan e rows)) node
