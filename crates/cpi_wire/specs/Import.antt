-- The rows of an import.
use Rattle.std.specs.Prelude.{List, [], ◌∷◌, if◌then◌else◌, nat_lt, length, map, Option, Some, None}
use Rattle.cpi_codes.specs.Zone.{ZoneRule}
use Rattle.cpi_office.specs.declared.request.Request.{Request}
use Rattle.cpi_wire.specs.declared.limits.TheConstants.{MOST_ROWS}
use Rattle.cpi_wire.specs.Arguments.{Text}
use Rattle.cpi_wire.specs.Input.{Record, records_of}
use Rattle.cpi_wire.specs.Words.{spelled_word, spelled_request}

-- a row is a word and its arguments; no word of a row is that of an import
unfoldable pub row_asks : ZoneRule → Record → Option Request
row_asks zone [] = None
row_asks zone (word ∷ arguments) = spelled_request zone (spelled_word word) arguments

-- the rows of a body, if it has at most `MOST_ROWS`
unfoldable pub rows_of_body : ZoneRule → Text → Option (List (Option Request))
rows_of_body zone body =
    if nat_lt MOST_ROWS (length (records_of body)) then None else Some (map (row_asks zone) (records_of body))
