-- How many bytes of body follow a head, or the status that refuses the message before its body is read (RFC 9112,
-- section 6).
use Rattle.std.specs.Prelude.{ℕ, ◌&&◌, Bool, nat_lt, nat_le, if◌then◌else◌, List, [], ◌∷◌, length, codes, Result, Ok}
use Rattle.std.specs.Prelude.{Err}
use Rattle.std.specs.List.{list_all}
use Rattle.std.specs.Char.{is_ascii_digit}
use Rattle.std.specs.Str.Parse.{digits_value}
use Rattle.cpi_http.specs.declared.limits.TheConstants.{MOST_BODY_BYTES}
use Rattle.cpi_http.specs.Fields.{Header, values_named}

-- one or more digits
abbrev pub is_digits : List ℕ → Bool
is_digits text = nat_lt 0 (length text) && list_all is_ascii_digit text

-- a length up to `MOST_BODY_BYTES`
abbrev pub in_limit : ℕ → Result ℕ ℕ
in_limit n = if nat_le n MOST_BODY_BYTES then Ok n else Err 413

-- the length in bytes that a value states
abbrev pub length_of_value : List ℕ → Result ℕ ℕ
length_of_value value = if is_digits value then in_limit (digits_value 10 value) else Err 400

-- the length of the body, by the values of `Content-Length`: none is an empty body, and more than one is no length
abbrev pub body_length : List (List ℕ) → Result ℕ ℕ
body_length [] = Ok 0
body_length (value ∷ []) = length_of_value value
body_length (value ∷ other ∷ values) = Err 400

-- a body with a transfer coding isn't taken
abbrev pub unless_coded : List (List ℕ) → Result ℕ ℕ → Result ℕ ℕ
unless_coded [] length = length
unless_coded (coding ∷ codings) length = Err 501

-- the length of the body in bytes, or the status that refuses it
abbrev pub framing_of : List Header → Result ℕ ℕ
framing_of headers =
    unless_coded (values_named (codes "transfer-encoding") headers)
    (body_length (values_named (codes "content-length") headers))
