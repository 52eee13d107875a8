-- The line of an answer, as the office's replies printed: whatever the answer to a record is, it is made of these.
use Rattle.std.specs.Prelude.{◌≡◌, ℕ, List, [], ◌∷◌, Option, Some, None}
use Rattle.cpi_codes.specs.Zone.{ZoneRule}
use Rattle.cpi_release.specs.State.{State}
use Rattle.cpi_store.specs.Office.{Office}
use Rattle.cpi_store.specs.Sound.{IsSound}
use Rattle.cpi_office.specs.Runs.{replies}
use Rattle.cpi_office.specs.Served.{NoneFails}
use Rattle.cpi_office.specs.declared.request.Request.{Request}
use Rattle.cpi_office.specs.declared.refusal.Refusal.TheVariants.{BadRequest}
use Rattle.cpi_office.specs.declared.reply.Reply.{Reply}
use Rattle.cpi_office.specs.declared.reply.Reply.TheVariants.{Refused}
use Rattle.cpi_wire.specs.Answer.{Answer}
use Rattle.cpi_wire.specs.Answer as answer
use Rattle.cpi_wire.specs.Answers.{Answers}
use Rattle.cpi_wire.specs.declared.asks.Ask.{Ask}
use Rattle.cpi_wire.specs.declared.asks.Ask.TheVariants as ask
use Rattle.cpi_wire.specs.Input.{Record}
use Rattle.cpi_wire.specs.Laws.{requests_of_record}
use Rattle.cpi_wire.specs.Lines.{all_replies}
use Rattle.cpi_wire.specs.Record.{ask_of}
use Rattle.cpi_wire.specs.Rows.{answer_line}

-- the replies to the rows of an import: one of no form is a bad request, and each other has the next reply
abbrev pub rows_answered : List (Option Request) → List Reply → List Reply
rows_answered [] rs = []
rows_answered (None ∷ rows) rs = Refused BadRequest ∷ rows_answered rows rs
rows_answered (Some request ∷ rows) [] = []
rows_answered (Some request ∷ rows) (r ∷ rs) = r ∷ rows_answered rows rs

-- the answer to what was asked, with these replies to its requests
abbrev pub answer_with : Ask → List Reply → Answer
answer_with ask.Bad rs = answer.One (Refused BadRequest)
answer_with (ask.One t k request) [] = answer.Rows []
answer_with (ask.One t k request) (r ∷ rs) = answer.One r
answer_with (ask.Import t k rows) rs = answer.Rows (rows_answered rows rs)

-- its line
abbrev pub printed_line : Ask → List Reply → List ℕ
printed_line asked rs = answer_line (answer_with asked rs)

-- A record of any caller, the desk too, that a sound office answers without a 90: its line is what the office's replies
-- to its requests print. The store is clean once it is answered.
abbrev pub LinesArePrinted : {B : Type 0} → (B → State Office) → Type 0
LinesArePrinted {B} state =
    (zone : ZoneRule) (row : Record) (answered : Answer) (old new : B) →
    Answers state old (ask_of zone row) answered new → (state new).is_clean → IsSound (state old).held →
    NoneFails (all_replies answered) →
    answer_line answered
    ≡ printed_line (ask_of zone row) (replies (requests_of_record (ask_of zone row)) (state old).held)
