-- A freeze takes the quotes that are stored for the month, with their marks.
use Rattle.std.specs.Prelude.{◌≡◌, ℕ, ◌&&◌, List, [], ◌∷◌, Option, Some, None, option_map, option_and_then}
use Rattle.std.specs.Prelude.{if◌then◌else◌}
use Rattle.cpi_rows.specs.Keyed.{row_at}
use Rattle.cpi_rows.specs.Held.{held_by}
use Rattle.cpi_codes.specs.declared.series.SeriesId.{SeriesId}
use Rattle.cpi_survey.specs.declared.mark.Mark.{Mark}
use Rattle.cpi_survey.specs.Assignment.{is_active}
use Rattle.cpi_survey.specs.Quote.{quote_cmp, quote_key}
use Rattle.cpi_store.specs.declared.given.Given.{Given}
use Rattle.cpi_store.specs.Office.{Office, quotes_of_month}
use Rattle.cpi_store.specs.Series.{same_series, series_cmp}
use Rattle.cpi_store.specs.Sound.{IsSound}

-- the mark of a series among the quotes that a freeze of the month takes
abbrev pub frozen_mark : ℕ → SeriesId → Office → Option Mark
frozen_mark month series o =
    option_map (λ f. f.mark) (row_at series_cmp (λ f. f.series) series (quotes_of_month month o))

-- the assignment that the series has in the month, with its collector's number
abbrev pub assignment_in : ℕ → SeriesId → List (ℕ × Given) → Option (ℕ × Given)
assignment_in month series [] = None
assignment_in month series (row ∷ rows) =
    if same_series row.1.series series && is_active month row.1.assignment then Some row
    else assignment_in month series rows

-- the mark of the quote of the month that is stored for an assignment
abbrev pub stored_mark : ℕ → Office → ℕ × Given → Option Mark
stored_mark month o row =
    option_map (λ q. q.mark)
    (row_at quote_cmp quote_key (row.1.assignment.slot, month) (held_by row.0 o.quotes))

-- A freeze takes a quote of a series if and only if the collector who has the series in that month has a quote of it,
-- and it takes that quote's mark.
abbrev pub FrozenAreStored : Type 0
FrozenAreStored =
    (o : Office) (month : ℕ) (series : SeriesId) → IsSound o →
    frozen_mark month series o ≡ option_and_then (stored_mark month o) (assignment_in month series o.assignments)
