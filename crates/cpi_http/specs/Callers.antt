-- The caller of a message, by the values of its field `Authorization`.
use Rattle.std.specs.Prelude.{ℕ, List, [], ◌∷◌, Option, Some, None, if◌then◌else◌, ◌==◌, codes}
use Rattle.cpi_codes.specs.Following.{◌>>=◌}
use Rattle.cpi_codes.specs.Key.{key_of}
use Rattle.cpi_office.specs.declared.caller.Caller.{Caller}
use Rattle.cpi_office.specs.declared.caller.Caller.TheVariants.{Public, Collector, Desk}
use Rattle.cpi_http.specs.Fields.{after_scheme}

-- a message with the desk's key comes from the desk
abbrev pub caller_of_key : ℕ → ℕ → Caller
caller_of_key desk_key key = if key == desk_key then Desk else Collector key

-- the scheme `CPI-Key` in any case, one or more spaces, and a key
abbrev pub caller_named : ℕ → List ℕ → Option Caller
caller_named desk_key value = do
  text ← after_scheme (codes "CPI-Key ") value
  key ← key_of text
  Some (caller_of_key desk_key key)

-- without the field the caller is the public; with two there is no caller
abbrev pub caller_in_fields : ℕ → List (List ℕ) → Option Caller
caller_in_fields desk_key [] = Some Public
caller_in_fields desk_key (value ∷ []) = caller_named desk_key value
caller_in_fields desk_key (value ∷ other ∷ values) = None
