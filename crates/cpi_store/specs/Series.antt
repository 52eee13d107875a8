-- Series over the assignments of all collectors: which one a slot has, how long it lasts, and quotes in their order.
use Rattle.std.specs.Prelude.{ℕ, Bool, ◌==◌, ◌&&◌, List, [], ◌∷◌, max, Option, Some, None, if◌then◌else◌}
use Rattle.std.specs.declared.cmp.Ordering.{Ordering}
use Rattle.std.specs.Ordering.{nat_cmp, ordering_then, is_gt}
use Rattle.std.specs.List.{list_any}
use Rattle.std.specs.BTreeMap.{get}
use Rattle.cpi_rows.specs.Keyed.{row_at}
use Rattle.cpi_rows.specs.Held.{held_cmp}
use Rattle.cpi_codes.specs.declared.series.SeriesId.{SeriesId}
use Rattle.cpi_survey.specs.declared.assignment.Assignment.{Assignment}
use Rattle.cpi_index.specs.Frozen.{Frozen}
use Rattle.cpi_store.specs.declared.given.Given.{Given}
use Rattle.cpi_store.specs.declared.taken_over.TakenOver.{TakenOver}
use Rattle.cpi_store.specs.declared.series_ends.SeriesEnds.{SeriesEnds}

abbrev pub same_series : SeriesId → SeriesId → Bool
same_series a b = a.collector == b.collector && a.slot == b.slot

-- by collector, and then by slot
abbrev pub series_cmp : SeriesId → SeriesId → Ordering
series_cmp a b = ordering_then (nat_cmp a.collector b.collector) (nat_cmp a.slot b.slot)

-- the series that a slot names
abbrev pub own_series : ℕ → ℕ → SeriesId
own_series collector slot = record { collector = collector; slot = slot }

-- the assignment of a slot that names its own series
abbrev pub first_of_series : ℕ → Assignment → Given
first_of_series collector a = record { assignment = a; series = own_series collector a.slot }

-- the last month of a series: the greatest among its assignments
abbrev pub last_of_series : SeriesId → List (ℕ × Given) → ℕ
last_of_series series [] = 0
last_of_series series (row ∷ rows) =
    if same_series row.1.series series then max row.1.assignment.last_month (last_of_series series rows)
    else last_of_series series rows

-- a quote in its place among quotes by series
abbrev pub put_by_series : Frozen → List Frozen → List Frozen
put_by_series f [] = f ∷ []
put_by_series f (g ∷ rows) = if is_gt (series_cmp f.series g.series) then g ∷ put_by_series f rows else f ∷ g ∷ rows

-- quotes in the order of their series
abbrev pub by_series : List Frozen → List Frozen
by_series [] = []
by_series (f ∷ rows) = put_by_series f (by_series rows)

-- ---- as the book in memory keeps them: only the series of slots that took one over

abbrev pub series_or : SeriesId → Option TakenOver → SeriesId
series_or own None = own
series_or own (Some t) = t.series

-- the series of a slot
abbrev pub series_named_in : List TakenOver → ℕ → ℕ → SeriesId
series_named_in taken collector slot =
    series_or (own_series collector slot) (row_at (held_cmp nat_cmp) (λ t. (t.collector, t.slot))
    (collector, slot) taken)

-- an assignment with the series of its slot
abbrev pub given_in : List TakenOver → ℕ × Assignment → ℕ × Given
given_in taken row = (row.0, record { assignment = row.1; series = series_named_in taken row.0 row.1.slot })

-- whether a slot took the series over
abbrev pub is_handed_over : List TakenOver → SeriesId → Bool
is_handed_over taken s = list_any (λ t. same_series t.series s) taken

-- the last month of a series that a slot took over
abbrev pub last_handed_over : List TakenOver → SeriesId → List (ℕ × Given) → ℕ
last_handed_over taken s given = if is_handed_over taken s then last_of_series s given else 0

abbrev pub or_first : Option ℕ → ℕ
or_first None = 0
or_first (Some month) = month

-- the last month that is known of a series, or the first month of all
abbrev pub last_known : SeriesEnds → SeriesId → ℕ
last_known ends s = or_first (get (held_cmp nat_cmp) ends.ends (s.collector, s.slot))
