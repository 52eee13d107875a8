-- Names, titles, units and texts.
use Rattle.std.specs.Prelude.{ℕ, Bool, List, length, ◌&&◌, ◌==◌, not, nat_le}
use Rattle.std.specs.List.{list_all}
use Rattle.std.specs.Str.{is_utf8}
use Rattle.cpi_codes.specs.declared.limits.TheConstants.{LONGEST_NAME}

-- a byte that is no control character
abbrev pub is_plain_byte : ℕ → Bool
is_plain_byte byte = nat_le 32 byte && not (byte == 127)

-- 1 to 400 bytes of UTF-8 without control characters
unfoldable pub is_text_of_name : List ℕ → Bool
is_text_of_name text =
    nat_le 1 (length text) && nat_le (length text) LONGEST_NAME && list_all is_plain_byte text && is_utf8 text
