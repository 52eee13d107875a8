-- What a release has of the quotes that were frozen with it: each series once, with what its assignments say of it.
use Rattle.std.specs.Prelude.{◌≡◌, ℕ, List, Some}
use Rattle.std.specs.List.{AllByRecursion}
use Rattle.cpi_rows.specs.Keyed.{IsInOrder, row_by_number}
use Rattle.cpi_rows.specs.Held.{held_by}
use Rattle.cpi_index.specs.Frozen.{Frozen}
use Rattle.cpi_release.specs.declared.release.Release.{Release}
use Rattle.cpi_store.specs.declared.given.Given.{Given}
use Rattle.cpi_store.specs.Series.{series_cmp, last_of_series}

-- the slot that names the series is there, with its item, and the series ends with the last of its assignments
abbrev pub IsOfSeries : List (ℕ × Given) → Frozen → Type 0
IsOfSeries given f =
    (g : Given)
    × (row_by_number (λ g. g.assignment.slot) f.series.slot (held_by f.series.collector given) ≡ Some g)
    × (f.item ≡ g.assignment.item)
    × (f.last_month ≡ last_of_series f.series given)

-- a frozen list names no series twice, and a series has one item and one last month throughout
pub record HasFrozenList (given : List (ℕ × Given)) (r : Release) : Type 0 where
  pub in_order : IsInOrder series_cmp (λ f. f.series) r.frozen
  pub of_series : AllByRecursion (IsOfSeries given) r.frozen
