-- The effect of the records of an input, one after the other, and the lines that are written.
use Rattle.std.specs.Prelude.{◌≡◌, ◌≤◌, ◌<◌, ℕ, List, [], ◌∷◌, ◌++◌, length, map, take, Option, Some, None, IfSome}
use Rattle.std.specs.Prelude.{option_to_list}
use Rattle.std.specs.List.{concat}
use Rattle.std.specs.Io.KnownBytes.{Appends}
use Rattle.cpi_codes.specs.Zone.{ZoneRule}
use Rattle.cpi_release.specs.State.{State}
use Rattle.cpi_store.specs.Office.{Office}
use Rattle.cpi_office.specs.declared.cause.Cause.{Cause}
use Rattle.cpi_wire.specs.Answer.{Answer}
use Rattle.cpi_wire.specs.declared.fault.WireFault.{WireFault}
use Rattle.cpi_wire.specs.declared.fault.WireFault.TheVariants as fault
use Rattle.cpi_wire.specs.declared.limits.TheConstants.{MOST_RECORDS}
use Rattle.cpi_wire.specs.Answers.{Answers, Begins, InTurn, some_answer_fails}
use Rattle.cpi_wire.specs.Causes.{IsCaused}
use Rattle.cpi_wire.specs.Input.{Record, AreFirst, records_of}
use Rattle.cpi_wire.specs.Record.{ask_of}
use Rattle.cpi_wire.specs.Rows.{answer_line}

-- the lines of all the replies were written
abbrev pub LinesAreWritten : List Answer → Option (List ℕ) → Option (List ℕ) → Type 0
LinesAreWritten replies old new = Appends old new (concat (map answer_line replies))

-- only a part of the last line was written
pub record LineIsCutOff (replies : List Answer) (old new : Option (List ℕ)) : Type 0 where
  pub front : List Answer
  pub last : Answer
  pub count : ℕ
  pub split : replies ≡ front ++ last ∷ []
  pub short : count < length (answer_line last)
  pub written : Appends old new (concat (map answer_line front) ++ take count (answer_line last))

-- the lines after a fault: after one of the writer all but the last are whole, and otherwise all of them
abbrev pub LinesAreWrittenUntil : WireFault → List Answer → Option (List ℕ) → Option (List ℕ) → Type 0
LinesAreWrittenUntil fault.Read replies old new = LinesAreWritten replies old new
LinesAreWrittenUntil fault.Write replies old new = LineIsCutOff replies old new
LinesAreWrittenUntil fault.NoMemory replies old new = LinesAreWritten replies old new

-- with this clock for civil times, over a book of this state
module _ {B : Type 0} (zone : ZoneRule) (state : B → State Office) where
  -- the records in turn, each with its reply
  abbrev pub AnswersAll : B → List Record → List Answer → B → Type 0
  AnswersAll old rows replies new =
      InTurn (λ from row reply to. Answers state from (ask_of zone row) reply to) old rows replies new

  -- every record of the input was answered, and nothing but the lines of the replies was written
  pub record AnsweredInput (input : Option (List ℕ)) (old new : B) (was is : Option (List ℕ)) : Type 0 where
    pub rows : List Record
    pub replies : List Answer
    pub all : IfSome input (λ xs. rows ≡ records_of xs)
    pub few : length rows ≤ MOST_RECORDS
    pub answers : AnswersAll old rows replies new
    pub written : LinesAreWritten replies was is

  -- the same, with a cause if one of the replies says that the office is unavailable, as far as IsCaused says
  pub record CausedInput (input : Option (List ℕ)) (old new : B) (was is : Option (List ℕ)) (cause : Option Cause)
      : Type 0 where
    pub answered : AnsweredInput input old new was is
    pub caused : IsCaused (state old) (state new) (some_answer_fails answered.replies) cause

  -- one record more after a fault: if memory ran out, it may have been begun, and otherwise there is none
  abbrev pub BegunUntil : WireFault → B → Option Record → B → Type 0
  BegunUntil fault.Read old next new = (next ≡ None) × (new ≡ old)
  BegunUntil fault.Write old next new = (next ≡ None) × (new ≡ old)
  BegunUntil fault.NoMemory old None new = new ≡ old
  BegunUntil fault.NoMemory old (Some row) new = Begins state old (ask_of zone row) new

  -- The first records of the input were answered, and no other was carried out. If memory ran out, one more may have
  -- been begun: no line of it is written.
  pub record GaveUp (input : Option (List ℕ)) (old new : B) (was is : Option (List ℕ)) (e : WireFault) : Type 0 where
    pub rows : List Record
    pub replies : List Answer
    pub mid : B
    pub next : Option Record
    pub first : IfSome input (AreFirst (rows ++ option_to_list next))
    pub few : length (rows ++ option_to_list next) ≤ MOST_RECORDS
    pub answers : AnswersAll old rows replies mid
    pub begun : BegunUntil e mid next new
    pub written : LinesAreWrittenUntil e replies was is
