-- The fields of a request: each is a name, and a value without the white space around it (RFC 9112, section 5).
use Rattle.std.specs.Prelude.{◌≡◌, ℕ, ◌≤◌, Bool, List, [], ◌∷◌, length, take, drop, map, flat_map, bytes_eq, Option}
use Rattle.std.specs.Prelude.{Some, None, if◌then◌else◌, ◌==◌}
use Rattle.std.specs.Char.{to_ascii_lowercase}
use Rattle.cpi_http.specs.declared.fields.Named.{Named}
use Rattle.cpi_http.specs.declared.fields.Named.TheVariants as Of

-- a name and a value
abbrev pub Header : Type 0
Header = List ℕ × List ℕ

-- the same text but for the case of its ASCII letters
abbrev pub is_same_text : List ℕ → List ℕ → Bool
is_same_text a b = bytes_eq (map to_ascii_lowercase a) (map to_ascii_lowercase b)

-- the values of the fields with this name, in order
abbrev pub values_named : List ℕ → List Header → List (List ℕ)
values_named name headers = flat_map (λ h. if is_same_text h.0 name then h.1 ∷ [] else []) headers

-- there is no such value, or one, or more
abbrev pub AreNamed : List (List ℕ) → Named → Type 0
AreNamed values Of.Never = values ≡ []
AreNamed values (Of.Once value) = values ≡ value.now ∷ []
AreNamed values Of.Again = 2 ≤ length values

-- the text without the spaces at its start
abbrev pub after_spaces : List ℕ → List ℕ
after_spaces [] = []
after_spaces (b ∷ text) = if b == 32 then after_spaces text else b ∷ text

-- the text after a scheme, which ends in a space, and after further spaces
abbrev pub after_scheme : List ℕ → List ℕ → Option (List ℕ)
after_scheme scheme value =
    if is_same_text (take (length scheme) value) scheme
    then Some (after_spaces (drop (length scheme) value))
    else None
