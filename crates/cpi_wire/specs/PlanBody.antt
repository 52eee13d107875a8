-- The body of a plan: its rows, in any order.
use Rattle.std.specs.Prelude.{◌≡◌, ℕ, nat_lt, Bool, true, false, if◌then◌else◌, List, [], ◌∷◌, ◌++◌, length, Option}
use Rattle.std.specs.Prelude.{Some, None}
use Rattle.cpi_plan.specs.declared.plan_bodies.PlanBody.{PlanBody}
use Rattle.cpi_plan.specs.declared.plan_rows.Title.{Title}
use Rattle.cpi_plan.specs.declared.plan_rows.Weight.{Weight}
use Rattle.cpi_plan.specs.declared.plan_rows.Place.{Place}
use Rattle.cpi_wire.specs.declared.limits.TheConstants.{MOST_ROWS}
use Rattle.cpi_wire.specs.declared.plan_rows.PlanRow.{PlanRow}
use Rattle.cpi_wire.specs.declared.plan_rows.PlanRow.TheVariants as row
use Rattle.cpi_wire.specs.Arguments.{Text}
use Rattle.cpi_wire.specs.Input.{Record, records_of}
use Rattle.cpi_wire.specs.PlanRows.{spelled_plan_row}
use Rattle.cpi_codes.specs.Following.{◌>>=◌}

abbrev pub titles_of : List PlanRow → List Title
titles_of [] = []
titles_of (row.Title t ∷ rows) = t ∷ titles_of rows
titles_of (row.Weight w ∷ rows) = titles_of rows
titles_of (row.Place p ∷ rows) = titles_of rows
titles_of (row.Reference m ∷ rows) = titles_of rows

abbrev pub weights_of_rows : List PlanRow → List Weight
weights_of_rows [] = []
weights_of_rows (row.Title t ∷ rows) = weights_of_rows rows
weights_of_rows (row.Weight w ∷ rows) = w ∷ weights_of_rows rows
weights_of_rows (row.Place p ∷ rows) = weights_of_rows rows
weights_of_rows (row.Reference m ∷ rows) = weights_of_rows rows

abbrev pub places_of : List PlanRow → List Place
places_of [] = []
places_of (row.Title t ∷ rows) = places_of rows
places_of (row.Weight w ∷ rows) = places_of rows
places_of (row.Place p ∷ rows) = p ∷ places_of rows
places_of (row.Reference m ∷ rows) = places_of rows

-- the reference months: a plan has one at most, which isn't judged here
abbrev pub references_of : List PlanRow → List ℕ
references_of [] = []
references_of (row.Title t ∷ rows) = references_of rows
references_of (row.Weight w ∷ rows) = references_of rows
references_of (row.Place p ∷ rows) = references_of rows
references_of (row.Reference m ∷ rows) = m ∷ references_of rows

-- the body that has these rows, each kind in the order of the rows
abbrev pub body_of_rows : List PlanRow → PlanBody
body_of_rows rows = record {
  titles = titles_of rows;
  weights = weights_of_rows rows;
  places = places_of rows;
  references = references_of rows;
}

-- all rows, if each is of a form
abbrev pub plan_rows : List Record → Option (List PlanRow)
plan_rows [] = Some []
plan_rows (fields ∷ more) = do
  first ← spelled_plan_row fields
  rows ← plan_rows more
  Some (first ∷ rows)

-- a record is one more row of the body, or of no form
abbrev pub AddsRow : PlanBody → PlanBody → Record → Bool → Type 0
AddsRow old new fields true =
    (row : PlanRow) × (spelled_plan_row fields ≡ Some row)
    × ((rows : List PlanRow) → old ≡ body_of_rows rows → new ≡ body_of_rows (rows ++ row ∷ []))
AddsRow old new fields false = spelled_plan_row fields ≡ None

-- the body, if it has at most `MOST_ROWS` rows
unfoldable pub body_of : Text → Option PlanBody
body_of text =
    if nat_lt MOST_ROWS (length (records_of text)) then None
    else (plan_rows (records_of text) >>= λ rows. Some (body_of_rows rows))
