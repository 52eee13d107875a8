-- The code that a text writes, computed.
use Rattle.std.specs.Prelude.{ℕ, ◌+◌, ◌-◌, ◌*◌, List, length, get_or, Option, Some, None, if◌then◌else◌, nat_lt}
use Rattle.std.specs.Prelude.{bytes_eq}
use Rattle.cpi_codes.specs.CodeParts.{are_parts}
use Rattle.cpi_codes.specs.CodeText.{code_text}
use Rattle.cpi_codes.specs.Following.{◌>>=◌}
use Rattle.cpi_codes.specs.Ranges.{holds}
use Rattle.cpi_codes.specs.declared.codes.Code.{Code}

-- the code of these parts, if they are parts of one
abbrev pub code_at : ℕ → Option ℕ → Option ℕ → Option ℕ → Option ℕ → Option Code
code_at d g c s a = holds (are_parts d g c s a) >>=
    λ valid. Some (record { division = d; group = g; class = c; subclass = s; aggregate = a; valid = valid })

-- the digit at a place, and the number of two digits from there on, if the text goes so far
abbrev pub digit_at : List ℕ → ℕ → Option ℕ
digit_at bytes at = if nat_lt at (length bytes) then Some (get_or bytes at 0 - 48) else None

abbrev pub number_at : List ℕ → ℕ → Option ℕ
number_at bytes at = if nat_lt at (length bytes) then Some
    ((get_or bytes at 0 - 48) * 10 + (get_or bytes (at + 1) 0 - 48)) else None

-- the code of the numbers at their places
abbrev pub code_in : List ℕ → Option Code
code_in bytes = number_at bytes 0 >>= λ d. code_at d (digit_at bytes 3) (digit_at bytes 5) (digit_at bytes 7)
    (number_at bytes 9)

-- if the text is how it is written
unfoldable pub spelled_code : List ℕ → Option Code
spelled_code bytes = code_in bytes >>= λ code. if bytes_eq (code_text code) bytes then Some code else None
