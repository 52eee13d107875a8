-- The latest of a month's rows: a list has them in the order of their revisions.
use Rattle.std.specs.Prelude.{ℕ, ◌==◌, List, [], ◌∷◌, Option, Some, None, if◌then◌else◌}
use Rattle.std.specs.Option.{option_or}

-- the last row of the month
abbrev pub latest_row : {X : Type 0} → (X → ℕ) → ℕ → List X → Option X
latest_row month_of month [] = None
latest_row month_of month (x ∷ xs) = option_or (latest_row month_of month xs)
    (if month_of x == month then Some x else None)
