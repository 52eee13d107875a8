-- What a record asks, field by field.
use Rattle.std.specs.Prelude.{ℕ, List, ◌∷◌, if◌then◌else◌, Option, Some, bytes_eq, codes}
use Rattle.std.specs.Option.{unwrap_or}
use Rattle.cpi_codes.specs.Key.{key_of}
use Rattle.cpi_codes.specs.Zone.{ZoneRule}
use Rattle.cpi_office.specs.declared.caller.Caller.{Caller}
use Rattle.cpi_office.specs.declared.caller.Caller.TheVariants as caller
use Rattle.cpi_office.specs.declared.request.Request.{Request}
use Rattle.cpi_wire.specs.declared.asks.Ask.{Ask}
use Rattle.cpi_wire.specs.declared.asks.Ask.TheVariants as ask
use Rattle.cpi_wire.specs.Arguments.{Text, exactly_one}
use Rattle.cpi_wire.specs.Import.{rows_of_body}
use Rattle.cpi_codes.specs.Following.{◌>>=◌}
use Rattle.cpi_wire.specs.Values.{spelled_moment}
use Rattle.cpi_wire.specs.Words.{spelled_word, spelled_request}

-- the public, the desk, or a collector by a key
abbrev pub spelled_caller : Text → Option Caller
spelled_caller text =
    if bytes_eq text (codes "public") then Some caller.Public
    else if bytes_eq text (codes "desk") then Some caller.Desk
    else (key_of text >>= λ k. Some (caller.Collector k))

-- the rows of an import's one argument
abbrev pub spelled_import : ZoneRule → List Text → Option (List (Option Request))
spelled_import zone arguments = exactly_one arguments >>= λ body. rows_of_body zone body

-- an import, or one request
abbrev pub spelled_asks : ZoneRule → ℕ → Caller → Text → List Text → Option Ask
spelled_asks zone t k word arguments =
    if bytes_eq word (codes "import") then (spelled_import zone arguments >>= λ rows. Some (ask.Import t k rows))
    else (spelled_request zone (spelled_word word) arguments >>= λ r. Some (ask.One t k r))

-- a moment, a caller, a word and its arguments
abbrev pub spelled_parts : ZoneRule → Text → Text → Text → List Text → Option Ask
spelled_parts zone m k word arguments = do
  t ← spelled_moment m
  c ← spelled_caller k
  spelled_asks zone t c word arguments

-- what a record asks, with civil times by the clock of the zone
unfoldable pub ask_of : ZoneRule → List Text → Ask
ask_of zone (m ∷ k ∷ word ∷ arguments) = unwrap_or (spelled_parts zone m k word arguments) ask.Bad
ask_of zone _ = ask.Bad
