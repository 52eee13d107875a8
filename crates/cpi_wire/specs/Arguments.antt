-- Lists of a fixed number of arguments.
use Rattle.std.specs.Prelude.{ℕ, Bool, true, false, List, [], ◌∷◌, Option, Some, None, if◌then◌else◌, bytes_eq, codes}

-- a field of a record, as its bytes
abbrev pub Text : Type 0
Text = List ℕ

unfoldable pub none : List Text → Option (Unit {0})
none [] = Some tt
none _ = None

unfoldable pub exactly_two : List Text → Option (Text × Text)
exactly_two (a ∷ b ∷ []) = Some (a, b)
exactly_two _ = None

unfoldable pub exactly_one : List Text → Option Text
exactly_one (a ∷ []) = Some a
exactly_one _ = None

unfoldable pub exactly_four : List Text → Option (Text × Text × Text × Text)
exactly_four (a ∷ b ∷ c ∷ d ∷ []) = Some (a, b, c, d)
exactly_four _ = None

-- the word that may follow an entry
abbrev pub is_confirm : Text → Bool
is_confirm text = bytes_eq text (codes "confirm")

-- four, and whether they are confirmed
unfoldable pub exactly_four_and_confirm : List Text → Option (Text × Text × Text × Text × Bool)
exactly_four_and_confirm (a ∷ b ∷ c ∷ d ∷ []) = Some (a, b, c, d, false)
exactly_four_and_confirm (a ∷ b ∷ c ∷ d ∷ e ∷ []) = if is_confirm e then Some (a, b, c, d, true) else None
exactly_four_and_confirm _ = None

-- two, and a third one if there is one
unfoldable pub exactly_two_or_three : List Text → Option (Text × Text × Option Text)
exactly_two_or_three (a ∷ b ∷ []) = Some (a, b, None)
exactly_two_or_three (a ∷ b ∷ c ∷ []) = Some (a, b, Some c)
exactly_two_or_three _ = None

unfoldable pub exactly_five : List Text → Option (Text × Text × Text × Text × Text)
exactly_five (a ∷ b ∷ c ∷ d ∷ e ∷ []) = Some (a, b, c, d, e)
exactly_five _ = None

unfoldable pub exactly_six : List Text → Option (Text × Text × Text × Text × Text × Text)
exactly_six (a ∷ b ∷ c ∷ d ∷ e ∷ f ∷ []) = Some (a, b, c, d, e, f)
exactly_six _ = None
