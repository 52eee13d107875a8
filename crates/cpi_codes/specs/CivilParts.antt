-- The limits of the parts of a civil time at a full minute, as the calendar asks for them.
use Rattle.std.proofs.Common.{ℕ, ◌<◌, pos, arith}
use Rattle.jiff.proofs.SpanFacts.{signed_arith}
use Rattle.jiff_core.specs.Calendar.{IsYear}

pub is_year : (n : ℕ) → n < 10000 → IsYear (pos n)
is_year n h = (omega (arith, signed_arith), omega (arith, signed_arith))

pub is_full_minute : 0 < 60
is_full_minute = omega arith

pub is_full_second : 0 < 1_000_000_000
is_full_second = omega arith
