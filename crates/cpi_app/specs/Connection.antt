-- One connection, and what it does to the office at a desk.
use Rattle.std.specs.Prelude.{ℕ, Bool, true, false, List, Option, Some, None, Result, Ok, Err, codes, is_some}
use Rattle.cpi_codes.specs.Zone.{ZoneRule}
use Rattle.cpi_release.specs.State.{State}
use Rattle.cpi_store.specs.Office.{Office}
use Rattle.cpi_wire.specs.Causes.{IsCaused}
use Rattle.cpi_wire.specs.declared.fault.WireFault.{WireFault}
use Rattle.cpi_wire.specs.declared.fault.WireFault.TheVariants as fault
use Rattle.cpi_http.specs.declared.serve.Ended.{Ended}
use Rattle.cpi_http.specs.declared.serve.Served.{Served}
use Rattle.cpi_http.specs.declared.serve.Served.TheVariants as served
use Rattle.cpi_http.specs.Message.{setting}
use Rattle.cpi_http.specs.Served.{Framing, ServedChange, IsServed, GaveUp, is_failed, served_change, messages}
use Rattle.cpi_app.specs.declared.shake.Shake.{Shake}
use Rattle.cpi_app.specs.declared.shake.Shake.TheVariants.{Unavailable, Unwritten, NoMemory}

-- The message at the front of the stream was served, whatever was read of the stream after it. If a reply says that the
-- office was unavailable, its cause is there.
abbrev pub ServesFront : {B : Type 0} → (B → State Office) → Framing → Option (List ℕ) → ServedChange B →
    Ended → Type 0
ServesFront state f stream c ended = (behind : Option (List ℕ)) × IsServed state f stream behind c ended.served
    × IsCaused (state c.before) (state c.now) (is_failed ended.served) ended.cause

-- the connection was given up within its message, or within the response
abbrev pub GivesUpFront : {B : Type 0} → (B → State Office) → Framing → Option (List ℕ) → ServedChange B →
    WireFault → Type 0
GivesUpFront state f stream c fault = (behind : Option (List ℕ)) × GaveUp state f stream behind c fault

-- the outcome of serving a connection
abbrev pub Outcome : Type 0
Outcome = Result Ended WireFault

-- Why the book has to be opened again, if it has to: a reply was that the office was unavailable, so that its store may
-- have failed; or a reply may have been that, since nobody knows the replies if a response wasn't written whole, or if
-- there was no memory for it.
abbrev pub shake_of_served : Served → Option Shake
shake_of_served (served.Answered status true) = Some Unavailable
shake_of_served (served.Answered status false) = None
shake_of_served served.Cut = None

abbrev pub shake_of_fault : WireFault → Option Shake
shake_of_fault fault.Read = None
shake_of_fault fault.Write = Some Unwritten
shake_of_fault fault.NoMemory = Some NoMemory

abbrev pub shake_of : Outcome → Option Shake
shake_of (Ok ended) = shake_of_served ended.served
shake_of (Err fault) = shake_of_fault fault

-- it has to
abbrev pub is_shaken : Outcome → Bool
is_shaken outcome = is_some (shake_of outcome)

-- the words of the reason, in a line on standard error
abbrev pub words_of : Shake → List ℕ
words_of Unavailable = codes "a request was refused by 90"
words_of Unwritten = codes "a response couldn't be written"
words_of NoMemory = codes "out of memory"

-- A connection: the moment at which it came, the bytes that its peer sends, and the bytes that were written to its peer
-- before it was served and after. `None` if nobody knows them.
pub record Connection : Type 0 where
  pub moment : ℕ
  pub sent : Option (List ℕ)
  pub written : Option (List ℕ)
  pub writing : Option (List ℕ)

abbrev pub connection : ℕ → Option (List ℕ) → Option (List ℕ) → Option (List ℕ) → Connection
connection moment sent written writing =
    record { moment = moment; sent = sent; written = written; writing = writing }

-- the service before a connection, the connection, its outcome, and the service after
abbrev pub Serving : Type 0 → Type 1
Serving S = S → Connection → Outcome → S → Type 0

-- the office over a book serves a connection, by a clock's rule and with a desk's key
abbrev pub ServesAtDesk : {B : Type 0} → (B → State Office) → ZoneRule → ℕ → Serving B
ServesAtDesk state zone key before came (Ok ended) now = ServesFront state
    (messages (setting came.moment zone key)) came.sent (served_change before now came.written came.writing) ended
ServesAtDesk state zone key before came (Err fault) now = GivesUpFront state
    (messages (setting came.moment zone key)) came.sent (served_change before now came.written came.writing) fault
