-- One record more is answered, and the effect of a replay that is given up.
use Rattle.std.proofs.Common.{◌≡◌, ◌≢◌, ◌∙◌, sym, ap, refl, ◌<◌, ◌≤◌, ℕ, List, [], ◌∷◌, ◌++◌, length, map, take, Option}
use Rattle.std.proofs.Common.{Bool, Some, None, IfSome, arith, append_assoc, append-nil, length-append}
use Rattle.std.proofs.lemmas.List.{map-append}
use Rattle.std.specs.List.{concat}
use Rattle.std.specs.Io.KnownBytes.{Appends}
use Rattle.std.proofs.KnownBytes.{Appends-nil, Appends-trans}
use Rattle.cpi_codes.specs.Zone.{ZoneRule}
use Rattle.cpi_release.specs.State.{State}
use Rattle.cpi_store.specs.Office.{Office}
use Rattle.cpi_wire.specs.Answer.{Answer}
use Rattle.cpi_wire.specs.declared.fault.WireFault.{WireFault}
use Rattle.cpi_wire.specs.declared.fault.WireFault.TheVariants as fault
use Rattle.cpi_wire.specs.declared.limits.TheConstants.{MOST_RECORDS}
use Rattle.cpi_wire.specs.Answers.{Answers, Begins, InTurn, AnswersWithLine}
use Rattle.cpi_wire.specs.Input.{Record, AreFirst}
use Rattle.cpi_wire.specs.Record.{ask_of}
use Rattle.cpi_wire.specs.Records.{LinesAreWritten, LinesAreWrittenUntil, LineIsCutOff, AnswersAll, BegunUntil, GaveUp}
use Rattle.cpi_wire.specs.Rows.{answer_line}

concat_more : (lines : List (List ℕ)) (line : List ℕ) → concat (lines ++ line ∷ []) ≡ concat lines ++ line
concat_more [] line = append-nil line
concat_more (l ∷ ls) line = ap (λ (z : List ℕ). l ++ z) (concat_more ls line) ∙ sym (append_assoc l (concat ls) line)

pub none_written : (old : Option (List ℕ)) → LinesAreWritten [] old old
none_written old = Appends-nil old

-- one line more
pub more_written : (replies : List Answer) (reply : Answer) (old mid new : Option (List ℕ))
    → LinesAreWritten replies old mid → Appends mid new (answer_line reply)
    → LinesAreWritten (replies ++ reply ∷ []) old new
more_written replies reply old mid new written line =
    rw (map-append answer_line replies (reply ∷ []), concat_more)
    (Appends-trans old mid new (concat (map answer_line replies)) (answer_line reply) written line)

-- all lines are whole after a fault, unless it is one of the writer
pub whole_written : (e : WireFault) (replies : List Answer) (old new : Option (List ℕ)) → e ≢ fault.Write →
    LinesAreWritten replies old new → LinesAreWrittenUntil e replies old new
whole_written fault.Read replies old new other written = written
whole_written fault.Write replies old new other written = absurd (other refl)
whole_written fault.NoMemory replies old new other written = written

-- of one line more a part was written
pub cut_off : (replies : List Answer) (reply : Answer) (old mid new : Option (List ℕ)) (count : ℕ)
    → LinesAreWritten replies old mid → count < length (answer_line reply)
    → Appends mid new (take count (answer_line reply)) → LineIsCutOff (replies ++ reply ∷ []) old new
cut_off replies reply old mid new count written short line = record {
  front = replies;
  last = reply;
  count = count;
  split = refl;
  short = short;
  written = Appends-trans old mid new (concat (map answer_line replies)) (take count (answer_line reply)) written line;
}

-- one more in turn
pub in_turn_more : {B X Y : Type 0} (step : B → X → Y → B → Type 0) (old mid new : B) (xs : List X) (ys : List Y)
    (x : X) (y : Y)
    → InTurn step old xs ys mid → step mid x y new → InTurn step old (xs ++ x ∷ []) (ys ++ y ∷ []) new
in_turn_more step old mid new [] [] x y h a = (new, rw h at a, refl)
in_turn_more step old mid new [] (p ∷ ps) x y h a = absurd h
in_turn_more step old mid new (q ∷ qs) [] x y h a = absurd h
in_turn_more step old mid new (q ∷ qs) (p ∷ ps) x y h a = (h.0, h.1, in_turn_more step h.0 mid new qs ps x y h.2 a)

module _ {B : Type 0} (zone : ZoneRule) (state : B → State Office) where
  pub answers_more : (old mid new : B) (rows : List Record) (replies : List Answer) (row : Record) (reply : Answer)
      → AnswersAll zone state old rows replies mid → Answers state mid (ask_of zone row) reply new
      → AnswersAll zone state old (rows ++ row ∷ []) (replies ++ reply ∷ []) new
  answers_more old mid new rows replies row reply h a =
      in_turn_more (λ from row reply to. Answers state from (ask_of zone row) reply to) old mid new rows replies row
      reply h a

  none_begun : (e : WireFault) (old : B) → BegunUntil zone state e old None old
  none_begun fault.Read old = (refl, refl)
  none_begun fault.Write old = (refl, refl)
  none_begun fault.NoMemory old = refl

  -- given up between two records
  pub gave_up_between : (input : Option (List ℕ)) (old new : B) (was is : Option (List ℕ)) (e : WireFault)
      (rows : List Record) (replies : List Answer)
      → e ≢ fault.Write → length rows ≤ MOST_RECORDS → IfSome input (AreFirst rows) →
      AnswersAll zone state old rows replies new → LinesAreWritten replies was is
      → GaveUp zone state input old new was is e
  gave_up_between input old new was is e rows replies other few first answers written = record {
    rows = rows;
    replies = replies;
    mid = new;
    next = None;
    first = rw (append-nil rows) first;
    few = rw (append-nil rows) few;
    answers = answers;
    begun = none_begun e new;
    written = whole_written e replies was is other written;
  }

  -- given up in a record, for lack of memory
  pub gave_up_in : (input : Option (List ℕ)) (old mid new : B) (was is : Option (List ℕ))
      (rows : List Record) (replies : List Answer) (row : Record)
      → length rows < MOST_RECORDS → IfSome input (AreFirst (rows ++ row ∷ []))
      → AnswersAll zone state old rows replies mid → LinesAreWritten replies was is
      → Begins state mid (ask_of zone row) new
      → GaveUp zone state input old new was is fault.NoMemory
  gave_up_in input old mid new was is rows replies row few first answers written begun = record {
    rows = rows;
    replies = replies;
    mid = mid;
    next = Some row;
    first = first;
    few = rw length-append (omega arith);
    answers = answers;
    begun = begun;
    written = written;
  }

  -- given up in the line of a record
  pub gave_up_at : (input : Option (List ℕ)) (old mid new : B) (was so_far is : Option (List ℕ))
      (rows : List Record) (replies : List Answer) (row : Record) (line : List ℕ)
      (failed : Bool) (count : ℕ)
      → length rows < MOST_RECORDS → IfSome input (AreFirst (rows ++ row ∷ []))
      → AnswersAll zone state old rows replies mid → LinesAreWritten replies was so_far
      → AnswersWithLine state mid (ask_of zone row) line failed new → count < length line → Appends so_far is (take count line)
      → GaveUp zone state input old new was is fault.Write
  gave_up_at input old mid new was so_far is rows replies row line failed n few first answers written one short part = record {
    rows = rows ++ row ∷ [];
    replies = replies ++ one.answered ∷ [];
    mid = new;
    next = None;
    first = rw (append-nil (rows ++ row ∷ [])) first;
    few = rw (append-nil (rows ++ row ∷ []), length-append) (omega arith);
    answers = answers_more old mid new rows replies row one.answered answers one.answers;
    begun = (refl, refl);
    written = cut_off replies one.answered was so_far is n written (rw (← one.line_is) short) (rw (← one.line_is) part);
  }
