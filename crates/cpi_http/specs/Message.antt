-- One HTTP message: the request that it asks for, check by check.
use Rattle.std.specs.Prelude.{◌≡◌, ℕ, ◌<◌, List, [], length, map, Option, Some, None, Result, Ok, Err}
use Rattle.httparse.specs.Grammar.{RequestHead}
use Rattle.httparse.specs.Spans.{name_and_value}
use Rattle.cpi_codes.specs.Zone.{ZoneRule}
use Rattle.cpi_wire.specs.declared.asks.Ask.{Ask}
use Rattle.cpi_http.specs.Called.{Called, called_of}
use Rattle.cpi_http.specs.Fields.{Header}
use Rattle.cpi_http.specs.Framing.{framing_of}
use Rattle.cpi_http.specs.Head.{ReadsHead, HasNoHead, NeverHasHead, MayGoOn}
use Rattle.cpi_http.specs.RouteAsks.{ask_of_route}

-- what a message asks, or the status that refuses it
abbrev pub MessageAsks : Type 0
MessageAsks = Result Ask ℕ

-- the moment of a message, in seconds since 1970 UTC, the clock by which its civil times are read, and the desk's key
pub record Setting : Type 0 where
  pub now : ℕ
  pub zone : ZoneRule
  pub desk_key : ℕ

abbrev pub setting : ℕ → ZoneRule → ℕ → Setting
setting now zone desk_key = record { now = now; zone = zone; desk_key = desk_key }

-- ---- after the head

-- arguments that make no record are refused
abbrev pub or_refused : Option Ask → MessageAsks
or_refused None = Err 400
or_refused (Some ask) = Ok ask

-- what a route asks with its caller, its path and its body
abbrev pub asked_by : ℕ → ZoneRule → Called → List ℕ → List ℕ → MessageAsks
asked_by now zone (Ok called) path body = or_refused (ask_of_route zone now called.1 called.0 path body)
asked_by now zone (Err status) path body = Err status

-- the bytes after a head are its body, or the message is refused before its body is read
pub data IsBody (now : ℕ) (zone : ZoneRule) (size : Result ℕ ℕ) (called : Called) (path taken : List ℕ)
    : MessageAsks → Type 0 where
  refused : (status : ℕ) → size ≡ Err status → taken ≡ [] → IsBody now zone size called path taken (Err status)
  whole : size ≡ Ok (length taken) → IsBody now zone size called path taken (asked_by now zone called path taken)

-- ---- the stream

abbrev pub headers_of : RequestHead → List Header
headers_of h = map name_and_value h.fields

-- the bytes after the head h are its body
abbrev pub IsBodyAfter : Setting → RequestHead → List ℕ → MessageAsks → Type 0
IsBodyAfter s h body m =
    IsBody s.now s.zone (framing_of (headers_of h)) (called_of s.desk_key (headers_of h) h.method h.target) h.target
    body m

-- The bytes that were taken are a message: a head and its body, or bytes that no head begins with, which are refused.
pub data IsMessage (s : Setting) (taken : List ℕ) : MessageAsks → Type 0 where
  malformed : NeverHasHead taken → IsMessage s taken (Err 400)
  headed : (h : RequestHead) (body : List ℕ) (m : MessageAsks) → ReadsHead taken h body → IsBodyAfter s h body m
      → IsMessage s taken m

-- the bytes that were taken are a part of a message: of its head, or its head and a part of its body
pub data IsPart (taken : List ℕ) : Type 0 where
  of_head : HasNoHead taken → MayGoOn taken → IsPart taken
  of_body : (h : RequestHead) (part : List ℕ) (n : ℕ) → ReadsHead taken h part
      → framing_of (headers_of h) ≡ Ok n → length part < n → IsPart taken
