-- How reading the head of a request ended.
use Rattle.std.specs.Prelude.{◌≡◌, ⊤, ℕ, Bool, true, List, [], Option}
use Rattle.std.specs.Io.KnownBytes.{IsAtEnd}
use Rattle.httparse.specs.Grammar.{RequestHead}
use Rattle.httparse.specs.declared.spans.HeaderSpan.{HeaderSpan}
use Rattle.httparse.specs.Spans.{IsRequestWithin, IsRequestAt}
use Rattle.cpi_http.specs.Head.{ReadsHead, HasNoHead, NeverHasHead, MayGoOn}
use Rattle.cpi_wire.specs.declared.fault.WireFault.{WireFault}
use Rattle.cpi_wire.specs.declared.fault.WireFault.TheVariants as fault
use Rattle.cpi_http.specs.declared.head.HeadEnd.{HeadEnd}
use Rattle.cpi_http.specs.declared.head.HeadEnd.TheVariants.{Whole, Malformed, Cut}

-- how reading ended is so by the bytes that were taken and those that are left
abbrev pub HeadEndIs : List ℕ → List HeaderSpan → Option (List ℕ) → HeadEnd → Type 0
HeadEndIs taken fields left (Whole spans) =
    (h : RequestHead) × ReadsHead taken h [] × IsRequestAt taken fields spans h × IsRequestWithin taken fields spans
HeadEndIs taken fields left Malformed = NeverHasHead taken
HeadEndIs taken fields left Cut = HasNoHead taken × MayGoOn taken × IsAtEnd left

-- a fault of reading, which was noted, or lack of memory
abbrev pub IsFaultOfReading : Bool → WireFault → Type 0
IsFaultOfReading noted fault.Read = noted ≡ true
IsFaultOfReading noted fault.Write = ⊥
IsFaultOfReading noted fault.NoMemory = ⊤
