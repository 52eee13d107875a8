-- The rows of schema 1 as schema 2 has them: the tables that schema 2 has anew hold a copy of each, and nothing else.
use Rattle.std.specs.Prelude.{pos, List, [], ◌∷◌, map, drop}
use Rattle.std.specs.List.Sorted.{IsPermutation}
use Rattle.sqlite.specs.declared.types.Value.TheVariants.{Null, Int}
use Rattle.sqlite.specs.Order.{Row, column}
use Rattle.sqlite.specs.Tree.{Trees}
use Rattle.cpi_sql_rows.specs.Tables.{table_of_assignments, table_of_assignments_2, table_of_carried}
use Rattle.cpi_sql_rows.specs.Tables.{table_of_carried_2, table_of_frozen, table_of_frozen_2, table_of_levels}
use Rattle.cpi_sql_rows.specs.Tables.{table_of_levels_2}
use Rattle.cpi_sql_rows.specs.Tables.{table_of_quotes, table_of_quotes_2, table_of_releases, table_of_releases_2}

-- ---- rows: each is its rowid, and then its columns

-- after its own columns an assignment has its slot as its series, and no copied price
abbrev pub assignment_copy : Row → Row
assignment_copy r =
    column r 0 ∷ column r 1 ∷ column r 2 ∷ column r 3 ∷ column r 4 ∷ column r 5 ∷ column r 6
    ∷ column r 1 ∷ column r 2 ∷ Null ∷ []

-- a quote has the same columns
abbrev pub quote_copy : Row → Row
quote_copy r = column r 0 ∷ column r 1 ∷ column r 2 ∷ column r 3 ∷ column r 4 ∷ column r 5 ∷ column r 6 ∷ []

-- the month of a release was its rowid
abbrev pub header_copy : Row → Row
header_copy r = Null ∷ column r 0 ∷ Int (pos 1) ∷ column r 2 ∷ column r 3 ∷ column r 4 ∷ []

-- each row of a release has revision 1 after its month
abbrev pub frozen_copy : Row → Row
frozen_copy r =
    column r 0 ∷ column r 1 ∷ Int (pos 1) ∷ column r 2 ∷ column r 3 ∷ column r 4 ∷ column r 5 ∷ column r 6
    ∷ column r 7 ∷ []

-- a carried price as it is moved
abbrev pub carried_copy : Row → Row
carried_copy r =
    column r 0 ∷ column r 1 ∷ Int (pos 1) ∷ column r 2 ∷ column r 3 ∷ column r 4 ∷ column r 5 ∷ column r 6
    ∷ column r 7 ∷ column r 8 ∷ column r 9 ∷ column r 10 ∷ []

-- a row of a table as it is moved
abbrev pub level_copy : Row → Row
level_copy r =
    column r 0 ∷ column r 1 ∷ Int (pos 1) ∷ column r 2 ∷ column r 3 ∷ column r 4 ∷ column r 5 ∷ column r 6
    ∷ column r 7 ∷ column r 8 ∷ column r 9 ∷ []

-- ---- tables

-- the columns of a row, without its rowid
abbrev pub contents : Row → Row
contents r = drop 1 r

-- the new rows are the copies of the old ones, one of each, in some order; their rowids may be others
abbrev pub AreCopies : (Row → Row) → List Row → List Row → Type 0
AreCopies copy old new = IsPermutation (map (λ r. contents (copy r)) old) (map contents new)

-- each table that schema 2 has anew holds the copies of the rows that its table of schema 1 held
pub record HasCopies (old new : Trees) : Type 0 where
  pub assignments : AreCopies assignment_copy (old table_of_assignments.tree) (new table_of_assignments_2.tree)
  pub quotes : AreCopies quote_copy (old table_of_quotes.tree) (new table_of_quotes_2.tree)
  pub headers : AreCopies header_copy (old table_of_releases.tree) (new table_of_releases_2.tree)
  pub frozen : AreCopies frozen_copy (old table_of_frozen.tree) (new table_of_frozen_2.tree)
  pub carried : AreCopies carried_copy (old table_of_carried.tree) (new table_of_carried_2.tree)
  pub levels : AreCopies level_copy (old table_of_levels.tree) (new table_of_levels_2.tree)
