-- Whether a body has more rows than `MOST_ROWS`.
use Rattle.std.proofs.Common.{◌≡◌, ◌<◌, ◌≤◌, ℕ, arith, nat_lt, true, false}
use Rattle.std.proofs.lemmas.Bool.Decides.{nat_tests}
use Rattle.cpi_wire.specs.declared.limits.TheConstants.{MOST_ROWS}

pub within_limit : (n : ℕ) → n ≤ MOST_ROWS → nat_lt MOST_ROWS n ≡ false
within_limit n h = grind (arith, nat_tests)

pub past_limit : (n : ℕ) → MOST_ROWS < n → nat_lt MOST_ROWS n ≡ true
past_limit n h = grind (arith, nat_tests)
