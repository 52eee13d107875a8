-- The requests in the records of an input.
use Rattle.std.specs.Prelude.{ℕ, List, [], ◌∷◌, ◌++◌, Option, Some, None}
use Rattle.cpi_codes.specs.Zone.{ZoneRule}
use Rattle.cpi_release.specs.State.{State}
use Rattle.cpi_store.specs.Office.{Office}
use Rattle.cpi_store.specs.Sound.{IsSound}
use Rattle.cpi_office.specs.OneChange.{ChangesRows}
use Rattle.cpi_office.specs.Served.{RunOverBook, all_served}
use Rattle.cpi_office.specs.declared.caller.Caller.{Caller}
use Rattle.cpi_office.specs.declared.request.Ask.{Ask as Asking}
use Rattle.cpi_office.specs.declared.request.Request.{Request}
use Rattle.cpi_office.specs.declared.reply.Reply.{Reply}
use Rattle.cpi_wire.specs.Answer.{Answer}
use Rattle.cpi_wire.specs.Answer as answer
use Rattle.cpi_wire.specs.declared.asks.Ask.{Ask}
use Rattle.cpi_wire.specs.declared.asks.Ask.TheVariants as ask
use Rattle.cpi_wire.specs.Input.{Record}
use Rattle.cpi_wire.specs.Record.{ask_of}
use Rattle.cpi_wire.specs.Records.{AnswersAll}

-- the requests in the rows of an import, and their replies
abbrev pub rows_asked : ℕ → Caller → List (Option Request) → List Asking
rows_asked t k [] = []
rows_asked t k (None ∷ rows) = rows_asked t k rows
rows_asked t k (Some r ∷ rows) = record { now = t; caller = k; request = r } ∷ rows_asked t k rows

abbrev pub rows_replied : List (Option Request) → List Reply → List Reply
rows_replied [] replies = []
rows_replied (row ∷ rows) [] = []
rows_replied (None ∷ rows) (reply ∷ replies) = rows_replied rows replies
rows_replied (Some r ∷ rows) (reply ∷ replies) = reply ∷ rows_replied rows replies

-- the requests of a record
abbrev pub requests_of_record : Ask → List Asking
requests_of_record ask.Bad = []
requests_of_record (ask.One t k r) = record { now = t; caller = k; request = r } ∷ []
requests_of_record (ask.Import t k rows) = rows_asked t k rows

-- their replies
abbrev pub replies_of_record : Ask → Answer → List Reply
replies_of_record ask.Bad answered = []
replies_of_record (ask.One t k r) (answer.One reply) = reply ∷ []
replies_of_record (ask.One t k r) (answer.Rows replies) = []
replies_of_record (ask.Import t k rows) (answer.One reply) = []
replies_of_record (ask.Import t k rows) (answer.Rows replies) = rows_replied rows replies

-- the requests of some records, or messages, in their order, and their replies
abbrev pub requests_of_asks : List Ask → List Asking
requests_of_asks [] = []
requests_of_asks (one ∷ asks) = requests_of_record one ++ requests_of_asks asks

abbrev pub replies_of_asks : List Ask → List Answer → List Reply
replies_of_asks [] answers = []
replies_of_asks (one ∷ asks) [] = []
replies_of_asks (one ∷ asks) (answered ∷ answers) = replies_of_record one answered ++ replies_of_asks asks answers

abbrev pub requests_of_records : ZoneRule → List Record → List Asking
requests_of_records zone [] = []
requests_of_records zone (row ∷ rows) = requests_of_record (ask_of zone row) ++ requests_of_records zone rows

abbrev pub replies_of : ZoneRule → List Record → List Answer → List Reply
replies_of zone [] replies = []
replies_of zone (row ∷ rows) [] = []
replies_of zone (row ∷ rows) (reply ∷ replies) =
    replies_of_record (ask_of zone row) reply ++ replies_of zone rows replies

-- records that were answered in turn are a run of their requests
abbrev pub AreRecordsOfARun : {B : Type 0} → (B → State Office) → Type 0
AreRecordsOfARun {B} state = (zone : ZoneRule) (old new : B) (rows : List Record) (replies : List Answer)
    → AnswersAll zone state old rows replies new →
    RunOverBook (state old) (state new) (requests_of_records zone rows) (replies_of zone rows replies)

-- Records that were answered in turn, from a sound office, changed only rows that their requests asked for, at most one
-- each, of a hand-over two; and each caller's view is the view before, with what the caller sees of those rows. A
-- request that was answered 90 changed nothing. The store is clean once the records are answered.
abbrev pub RecordsChangeRows : {B : Type 0} → (B → State Office) → Type 0
RecordsChangeRows {B} state = (zone : ZoneRule) (old new : B) (rows : List Record) (replies : List Answer)
    → AnswersAll zone state old rows replies new → (state new).is_clean → IsSound (state old).held →
    ChangesRows (all_served (requests_of_records zone rows) (replies_of zone rows replies)) (state old).held
    (state new).held
