use Rattle.std.proofs.Common.{◌≡◌, ◌<◌, ◌≤◌, ◌^◌, take}
use Rattle.std.specs.Int.Digits.{number_from_digits}
use Rattle.cpi_codes.specs.ItemCode.{with_zero_bytes}
use Rattle.cpi_codes.proofs.item_codes.number_of_bytes.Given as goal

abbrev pub invariant-loop-place : goal.invariant-loop-place
invariant-loop-place l = (l.value ≡ number_from_digits 256 (take l.place (with_zero_bytes l.text))) ×
    (l.value < 256 ^ l.place)
    × (l.place ≤ 12)
