use Rattle.std.proofs.Common.{◌≡◌, take, filter, string_bytes}
use Rattle.cpi_codes.specs.ItemCode.{is_no_zero}
use Rattle.cpi_codes.proofs.item_codes.text_of.Given as goal

abbrev pub invariant-loop-byte : goal.invariant-loop-byte
invariant-loop-byte l = string_bytes l.text ≡ filter is_no_zero (take l.byte-index l.bytes)
