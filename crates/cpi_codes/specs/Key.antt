-- Keys of collectors, as the number that their digits write.
use Rattle.std.specs.Prelude.{ℕ, Bool, List, length, ◌&&◌, ◌||◌, ◌==◌, if◌then◌else◌, Option, Some, None}
use Rattle.std.specs.List.{list_all}
use Rattle.std.specs.Char.{is_ascii_digit}
use Rattle.std.specs.Int.{is_in_range}
use Rattle.std.specs.Str.Parse.{digits_value}

-- one of 0-9 and a-f
abbrev pub is_digit_of_key : ℕ → Bool
is_digit_of_key c = is_ascii_digit c || is_in_range 97 102 c

-- 32 digits of 0-9 and a-f, as a number in base 16
abbrev pub key_of : List ℕ → Option ℕ
key_of text = if length text == 32 && list_all is_digit_of_key text then Some (digits_value 16 text) else None
