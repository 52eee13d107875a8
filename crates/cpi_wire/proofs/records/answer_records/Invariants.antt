use Rattle.std.proofs.Common.{◌≡◌, ℕ, List, [], Option, length}
use Rattle.cpi_wire.specs.Answer.{Answer}
use Rattle.cpi_wire.specs.Answers.{some_answer_fails}
use Rattle.cpi_wire.specs.Causes.{IsCaused}
use Rattle.cpi_wire.specs.Input.{Record}
use Rattle.cpi_wire.specs.Records.{AnswersAll, LinesAreWritten}
use Rattle.cpi_wire.specs.Input.{IsAt}
use Rattle.cpi_wire.proofs.records.answer_records.Given as goal

-- the records so far were answered, and their lines written
abbrev pub invariant-loop : goal.invariant-loop
invariant-loop g l = (rows : List Record) × (replies : List Answer)
    × ((input : Option (List ℕ)) → IsAt g.R.Read.remaining input [] l.fn.records →
    IsAt g.R.Read.remaining input rows l.records)
    × AnswersAll l.fn.zone g.B.Book.state l.fn.office.book rows replies l.office.book
    × LinesAreWritten replies (g.W.Write.contents l.fn.writer) (g.W.Write.contents l.writer)
    × (length rows ≡ l.counter)
    × IsCaused (g.B.Book.state l.fn.office.book) (g.B.Book.state l.office.book) (some_answer_fails replies) l.cause
