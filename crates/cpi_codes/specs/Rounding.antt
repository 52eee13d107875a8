-- Rounding.
use Rattle.std.specs.Prelude.{ℕ, ◌+◌, ◌*◌, ◌/◌}

-- a/b rounded to the nearest whole number, halves upwards: half of b is added before dividing by it, and
-- both are doubled, so that the half of an odd number is a whole one too
abbrev pub rounded_quotient : ℕ → ℕ → ℕ
rounded_quotient a b = (2 * a + b) / (2 * b)
