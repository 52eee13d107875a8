-- Item codes, as the number that their bytes write.
use Rattle.std.specs.Prelude.{◌≡◌, ℕ, ◌-◌, Bool, ◌&&◌, ◌||◌, ◌==◌, not, nat_le, if◌then◌else◌, List, ◌++◌, length}
use Rattle.std.specs.Prelude.{replicate, Option, Some, None}
use Rattle.std.specs.List.{list_all}
use Rattle.std.specs.Char.{is_ascii_uppercase, is_ascii_digit}
use Rattle.std.specs.Int.Digits.{number_from_digits}

-- one of A-Z and 0-9
abbrev pub is_character_of_item : ℕ → Bool
is_character_of_item c = is_ascii_uppercase c || is_ascii_digit c

-- 1 to 12 characters of A-Z and 0-9
abbrev pub is_text_of_item : List ℕ → Bool
is_text_of_item text = nat_le 1 (length text) && nat_le (length text) 12 && list_all is_character_of_item text

-- filled up with zero bytes to 12
abbrev pub with_zero_bytes : List ℕ → List ℕ
with_zero_bytes text = text ++ replicate (12 - length text) 0

-- the number that the bytes of a text, filled up to 12, write in base 256
abbrev pub item_number : List ℕ → ℕ
item_number text = number_from_digits 256 (with_zero_bytes text)

-- the item code that a text writes
unfoldable pub item_code_of : List ℕ → Option ℕ
item_code_of text = if is_text_of_item text then Some (item_number text) else None

-- a byte that fills nothing up
abbrev pub is_no_zero : ℕ → Bool
is_no_zero byte = not (byte == 0)

-- some text writes the item code
abbrev pub IsItemCode : ℕ → Type 0
IsItemCode code = (text : List ℕ) × (item_code_of text ≡ Some code)
