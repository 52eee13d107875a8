-- The rows of a release as an answer shows them, after its month and its revision.
use Rattle.std.specs.Prelude.{ℕ, ℤ, pos, Bool, true, false, List, map, Option, Some, None}
use Rattle.std.specs.List.{join_with_byte}
use Rattle.sqlite.specs.declared.types.Value.{Value}
use Rattle.sqlite.specs.declared.types.Value.TheVariants.{Null, Int}
use Rattle.sqlite.specs.Order.{Row, column}
use Rattle.cpi_codes.specs.CodeText.{code_text}
use Rattle.cpi_codes.specs.declared.codes.Code.{Code}
use Rattle.cpi_index.specs.Frozen.{Frozen}
use Rattle.cpi_index.specs.Carried.{Carried}
use Rattle.cpi_release.specs.declared.level.Level.{Level}
use Rattle.cpi_sql_rows.specs.Lists.{and_then, release_from_key, frozen_from, carried_from, level_from}

-- codes as a header has them
abbrev pub carry_text : List Code → List ℕ
carry_text carry = join_with_byte 32 (map code_text carry)

-- what an answer shows of a frozen quote
abbrev pub shown_frozen : Row → Option Frozen
shown_frozen x = and_then (release_from_key (column x 0) (column x 1)) (λ _.
    frozen_from (column x 2) (column x 3) (column x 4) (column x 5) (column x 6) (column x 7))

-- what an answer shows of a carried price
abbrev pub shown_carried : Row → Option Carried
shown_carried x = and_then (release_from_key (column x 0) (column x 1)) (λ _.
    carried_from (column x 2) (column x 3) (column x 4) (column x 5) (column x 6) (column x 7) (column x 8) (column x 9)
    (column x 10))

-- what an answer shows of a row of a table
abbrev pub shown_level : Row → Option Level
shown_level x = and_then (release_from_key (column x 0) (column x 1)) (λ _.
    level_from (column x 2) (column x 3) (column x 4) (column x 5) (column x 6) (column x 7) (column x 8) (column x 9))

-- the frozen quote of a row's columns after its release
abbrev pub frozen_after : Row → Option Frozen
frozen_after r =
    frozen_from (column r 3) (column r 4) (column r 5) (column r 6) (column r 7) (column r 8)

-- the carried price of a row's columns after its release
abbrev pub carried_after : Row → Option Carried
carried_after r =
    carried_from (column r 3) (column r 4) (column r 5) (column r 6) (column r 7) (column r 8) (column r 9)
    (column r 10) (column r 11)

-- the row of a printed table in a row's columns after its release
abbrev pub level_after : Row → Option Level
level_after r =
    level_from (column r 3) (column r 4) (column r 5) (column r 6) (column r 7) (column r 8) (column r 9)
    (column r 10)

-- an annual change as its column has it: NULL if there is none
abbrev pub annual : Option ℤ → Value
annual None = Null
annual (Some z) = Int z

-- a flag as it is written
abbrev pub flag_value : Bool → Value
flag_value false = Int (pos 0)
flag_value true = Int (pos 1)
