-- The effect of one call of `serve_one`, and of `serve_noted`.
use Rattle.std.specs.Prelude.{◌≡◌, ◌⊎◌, ◌<◌, ⊤, ℕ, Bool, true, false, List, length, take, Option, Result, Ok}
use Rattle.std.specs.Io.KnownBytes.{Consumes, IsAtEnd, Keeps, Appends}
use Rattle.cpi_codes.specs.Zone.{ZoneRule}
use Rattle.cpi_release.specs.State.{State}
use Rattle.cpi_store.specs.Office.{Office}
use Rattle.cpi_wire.specs.Answer.{Answer}
use Rattle.cpi_wire.specs.Answers.{Answers, Begins, some_fails}
use Rattle.cpi_wire.specs.Lines.{all_replies}
use Rattle.cpi_wire.specs.declared.fault.WireFault.{WireFault}
use Rattle.cpi_wire.specs.declared.fault.WireFault.TheVariants as fault
use Rattle.cpi_http.specs.declared.serve.Served.{Served}
use Rattle.cpi_http.specs.declared.serve.Served.TheVariants as served
use Rattle.cpi_http.specs.Called.{Called}
use Rattle.cpi_http.specs.Message.{MessageAsks, Setting, IsBody, IsMessage, IsPart}
use Rattle.cpi_http.specs.Response.{ask_in, response_to, body_bytes}

-- the bytes of a stream may be a message, which asks for something or is refused, or a part of one
pub record Framing : Type 1 where
  pub message : List ℕ → MessageAsks → Type 0
  pub part : List ℕ → Type 0

-- a stream of one message
abbrev pub messages : Setting → Framing
messages s = record { message = IsMessage s; part = IsPart }

-- after a head comes a body of this size, or none if the head is refused
abbrev pub bodies : ℕ → ZoneRule → Result ℕ ℕ → Called → List ℕ → Framing
bodies now zone size called path = record {
  message = IsBody now zone size called path;
  part = λ taken. (n : ℕ) × (size ≡ Ok n) × (length taken < n);
}

-- the stream gave a message, exactly the bytes that were taken
abbrev pub StreamGives : Framing → Option (List ℕ) → Option (List ℕ) → MessageAsks → Type 0
StreamGives f old new m = (taken : List ℕ) × Consumes old new taken × f.message taken m

-- the stream ended within a message
abbrev pub EndsWithin : Framing → Option (List ℕ) → Option (List ℕ) → Type 0
EndsWithin f old new = (taken : List ℕ) × Consumes old new taken × IsAtEnd new × f.part taken

-- the book, and the bytes of the writer, before and after
pub record ServedChange (B : Type 0) : Type 0 where
  pub before : B
  pub now : B
  pub written : Option (List ℕ)
  pub writing : Option (List ℕ)

abbrev pub served_change : {B : Type 0} → B → B → Option (List ℕ) → Option (List ℕ) → ServedChange B
served_change before now written writing = record { before = before; now = now; written = written; writing = writing }

-- whether one of the replies was that the office was unavailable
abbrev pub is_failed : Served → Bool
is_failed (served.Answered status failed) = failed
is_failed served.Cut = false

-- the notes of reading and of writing say that it failed, if that is the fault
abbrev pub IsNoted : Bool → Bool → WireFault → Type 0
IsNoted reading writing fault.Read = reading ≡ true
IsNoted reading writing fault.Write = writing ≡ true
IsNoted reading writing fault.NoMemory = ⊤

-- the reason why a response wasn't written whole
abbrev pub SendFails : Option (List ℕ) → Option (List ℕ) → List ℕ → WireFault → Type 0
SendFails old new bytes fault.Read = ⊥
SendFails old new bytes fault.Write = (count : ℕ) × (count < length bytes) × Appends old new (take count bytes)
SendFails old new bytes fault.NoMemory = Keeps old new

module _ {B : Type 0} (state : B → State Office) (f : Framing) (old new : Option (List ℕ)) (c : ServedChange B) where
  -- a message was read, carried out and answered in these bytes
  pub record IsAnswered (status : ℕ) (failed : Bool) : Type 0 where
    pub asked : MessageAsks
    pub answered : Answer
    pub gives : StreamGives f old new asked
    pub answers : Answers state c.before (ask_in asked) answered c.now
    pub written : Appends c.written c.writing (body_bytes (response_to asked answered))
    pub status_is : status ≡ (response_to asked answered).status
    pub failed_is : failed ≡ some_fails (all_replies answered)

  -- a message was answered, or the stream ended within one: then nothing was carried out and nothing written
  abbrev pub IsServed : Served → Type 0
  IsServed (served.Answered status failed) = IsAnswered status failed
  IsServed served.Cut = EndsWithin f old new × (c.now ≡ c.before) × Keeps c.written c.writing

  -- a message was carried out, and only a part of its response was written
  pub record IsCutOff : Type 0 where
    pub asked : MessageAsks
    pub answered : Answer
    pub count : ℕ
    pub gives : StreamGives f old new asked
    pub answers : Answers state c.before (ask_in asked) answered c.now
    pub short : count < length (body_bytes (response_to asked answered))
    pub written : Appends c.written c.writing (take count (body_bytes (response_to asked answered)))

  -- the connection was given up: nothing was carried out; or the message was, but not answered whole; or memory ran
  -- out, and the message was not begun, or its first commands were carried out
  abbrev pub GaveUp : WireFault → Type 0
  GaveUp fault.Read = (c.now ≡ c.before) × Keeps c.written c.writing
  GaveUp fault.Write = IsCutOff
  GaveUp fault.NoMemory =
      ((c.now ≡ c.before) ⊎ ((m : MessageAsks) × StreamGives f old new m × Begins state c.before (ask_in m) c.now))
      × Keeps c.written c.writing
