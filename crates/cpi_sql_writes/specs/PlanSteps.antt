-- The rows of a year's plan in their tables.
use Rattle.std.specs.Prelude.{◌≡◌, ℕ, pos, Bool, Some}
use Rattle.sqlite.specs.declared.types.Value.TheVariants.{Int}
use Rattle.sqlite.specs.Order.{Row, column}
use Rattle.cpi_sql_rows.specs.Lists.{number_within}
use Rattle.cpi_sql_rows.specs.Shelf.{equals}

-- whether a row is one of the year, which is in one of its columns
abbrev pub is_of_year : ℕ → ℕ → Row → Bool
is_of_year place year r = equals (column r place) (Int (pos year))

-- the number of the year that this column stands for
abbrev pub IsYearNumber : ℕ → ℕ → Type 0
IsYearNumber year number = number_within 2000 2199 (Int (pos year)) ≡ Some number
