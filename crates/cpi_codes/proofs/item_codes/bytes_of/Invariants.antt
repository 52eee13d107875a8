use Rattle.std.proofs.Common.{◌≡◌, ◌≤◌, ◌<◌, ℕ, List, length, take, get_or, Some}
use Rattle.std.specs.Int.Digits.{number_from_digits}
use Rattle.cpi_codes.specs.ItemCode.{with_zero_bytes, item_code_of}
use Rattle.cpi_codes.proofs.item_codes.bytes_of.Given as goal

abbrev pub invariant-loop-place : goal.invariant-loop-place
invariant-loop-place l =
    (length l.bytes ≡ 12) × (l.place ≤ 12)
    × ((text : List ℕ) → item_code_of text ≡ Some l.fn.value →
    l.rest ≡ number_from_digits 256 (take l.place (with_zero_bytes text)))
    × ((text : List ℕ) → item_code_of text ≡ Some l.fn.value → (k : ℕ) → l.place ≤ k → k < 12 →
    get_or l.bytes k 0 ≡ get_or (with_zero_bytes text) k 0)
