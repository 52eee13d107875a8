-- Numbers, as a field of a record writes them.
use Rattle.std.specs.Prelude.{ℕ, Bool, List, length, ◌&&◌, ◌||◌, ◌==◌, not, nat_le, slice_index, if◌then◌else◌, Option}
use Rattle.std.specs.Prelude.{Some, None}
use Rattle.std.specs.List.{list_all}
use Rattle.std.specs.Char.{is_ascii_digit}
use Rattle.std.specs.Str.Parse.{digits_value}

-- decimal digits and nothing else, at least one; the first is `0` only where it is alone
abbrev pub is_number_text : List ℕ → Bool
is_number_text text = not (length text == 0) && list_all is_ascii_digit text
    && ((length text == 1) || not (slice_index text 0 == 48))

-- the number from low to high that the text writes
unfoldable pub number_in : ℕ → ℕ → List ℕ → Option ℕ
number_in low high text =
    if is_number_text text && nat_le low (digits_value 10 text) && nat_le (digits_value 10 text) high
    then Some (digits_value 10 text)
    else None
