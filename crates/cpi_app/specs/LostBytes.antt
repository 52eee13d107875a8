-- Bytes that a peer didn't take.
use Rattle.std.specs.Prelude.{ℕ, Bool, true, false, List, [], ◌∷◌, map}

-- the bytes in a log of them
abbrev pub lost_bytes : List (ℕ × ℕ) → List ℕ
lost_bytes log = map (λ (entry : ℕ × ℕ). entry.0) log

-- there are none, unless a write has failed
abbrev pub are_noted : Bool → List (ℕ × ℕ) → Bool
are_noted true log = true
are_noted false [] = true
are_noted false (entry ∷ log) = false
