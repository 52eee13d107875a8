-- The answer to a record, and its effect.
use Rattle.std.specs.Prelude.{◌≡◌, ℕ, Bool, List, [], ◌∷◌, ◌++◌, Option, Some, None}
use Rattle.std.specs.List.{list_any}
use Rattle.cpi_release.specs.State.{State}
use Rattle.cpi_store.specs.Office.{Office}
use Rattle.cpi_store.specs.Sound.{IsSound}
use Rattle.cpi_office.specs.Calls.{ServesWhere, is_failure_of}
use Rattle.cpi_office.specs.Runs.{reply_to, after_one}
use Rattle.cpi_office.specs.declared.caller.Caller.{Caller}
use Rattle.cpi_office.specs.declared.request.Request.{Request}
use Rattle.cpi_office.specs.declared.refusal.Refusal.TheVariants.{BadRequest}
use Rattle.cpi_office.specs.declared.reply.Reply.{Reply}
use Rattle.cpi_office.specs.declared.reply.Reply.TheVariants.{Refused}
use Rattle.cpi_wire.specs.Answer.{Answer}
use Rattle.cpi_wire.specs.Answer as answer
use Rattle.cpi_wire.specs.declared.asks.Ask.{Ask}
use Rattle.cpi_wire.specs.declared.asks.Ask.TheVariants as ask
use Rattle.cpi_wire.specs.Rows.{answer_line}

-- each in turn, with its result: none is left out, none comes twice, and each begins where the last one ended
abbrev pub InTurn : {B X Y : Type 0} → (B → X → Y → B → Type 0) → B → List X → List Y → B → Type 0
InTurn step old [] [] new = new ≡ old
InTurn step old [] (y ∷ ys) new = ⊥
InTurn step old (x ∷ xs) [] new = ⊥
InTurn {B} step old (x ∷ xs) (y ∷ ys) new = (mid : B) × step old x y mid × InTurn step mid xs ys new

-- one of the replies says that the office is unavailable
abbrev pub some_fails : List Reply → Bool
some_fails replies = list_any is_failure_of replies

-- one of the replies of an answer does, or of some answers
abbrev pub answer_fails : Answer → Bool
answer_fails (answer.One reply) = is_failure_of reply
answer_fails (answer.Rows replies) = some_fails replies

abbrev pub some_answer_fails : List Answer → Bool
some_answer_fails answers = list_any answer_fails answers

-- over a book of this state
module _ {B : Type 0} (state : B → State Office) where
  -- a record of no form is a bad request and changes nothing
  abbrev pub IsBad : B → Reply → B → Type 0
  IsBad old reply new = (reply ≡ Refused BadRequest) × (new ≡ old)

  -- a request is served
  abbrev pub IsServed : ℕ → Caller → B → Request → Reply → B → Type 0
  IsServed now caller old request reply new =
      ServesWhere (state old) (state new) (IsSound (state old).held) reply
      (reply_to now caller request (state old).held) (after_one now caller request (state old).held)

  -- one row of an import
  abbrev pub RowAnswers : ℕ → Caller → B → Option Request → Reply → B → Type 0
  RowAnswers now caller old None reply new = IsBad old reply new
  RowAnswers now caller old (Some request) reply new = IsServed now caller old request reply new

  -- all rows in turn, whatever the replies to the rows before are
  abbrev pub RowsAnswer : ℕ → Caller → B → List (Option Request) → List Reply → B → Type 0
  RowsAnswer now caller old rows replies new = InTurn (RowAnswers now caller) old rows replies new

  -- a record has one reply, and an import one for each of its rows
  abbrev pub Answers : B → Ask → Answer → B → Type 0
  Answers old ask.Bad (answer.One reply) new = IsBad old reply new
  Answers old ask.Bad (answer.Rows replies) new = ⊥
  Answers old (ask.One now caller request) (answer.One reply) new = IsServed now caller old request reply new
  Answers old (ask.One now caller request) (answer.Rows replies) new = ⊥
  Answers old (ask.Import now caller rows) (answer.One reply) new = ⊥
  Answers old (ask.Import now caller rows) (answer.Rows replies) new = RowsAnswer now caller old rows replies new

  -- the record is answered, this is the line of its answer, and whether one of the replies says that the office is
  -- unavailable
  pub record AnswersWithLine (old : B) (asked : Ask) (line : List ℕ) (failed : Bool) (new : B) : Type 0 where
    pub answered : Answer
    pub answers : Answers old asked answered new
    pub line_is : line ≡ answer_line answered
    pub failed_is : failed ≡ answer_fails answered

  -- the first rows were carried out, each answered in turn, and no others
  pub record FirstRowsAnswer (now : ℕ) (caller : Caller) (old : B) (rows : List (Option Request))
      (new : B) : Type 0 where
    pub front : List (Option Request)
    pub rest : List (Option Request)
    pub replies : List Reply
    pub split : rows ≡ front ++ rest
    pub answers : RowsAnswer now caller old front replies new

  -- a record was begun: the first rows of an import were carried out, or none; one request was carried out, or wasn't
  abbrev pub Begins : B → Ask → B → Type 0
  Begins old ask.Bad new = new ≡ old
  Begins old (ask.One now caller request) new = FirstRowsAnswer now caller old (Some request ∷ []) new
  Begins old (ask.Import now caller rows) new = FirstRowsAnswer now caller old rows new
