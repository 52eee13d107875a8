-- What the lines to a caller depend on.
use Rattle.std.specs.Prelude.{◌≡◌, ◌≢◌, ⊤, ℕ, Bool, false, not, List, [], ◌∷◌, ◌++◌, map, filter, if◌then◌else◌}
use Rattle.cpi_codes.specs.Zone.{ZoneRule}
use Rattle.cpi_release.specs.State.{State}
use Rattle.cpi_store.specs.Office.{Office}
use Rattle.cpi_office.specs.Projections.{view}
use Rattle.cpi_office.specs.Runs.{trace}
use Rattle.cpi_office.specs.ProjectedChanges.{Sight, sights_of}
use Rattle.cpi_office.specs.Served.{all_served, NoneFails}
use Rattle.cpi_store.specs.Sound.{IsSound}
use Rattle.cpi_office.specs.NonInterference.{has_this_key, is_other, NonePassesOn}
use Rattle.cpi_office.specs.declared.caller.Caller.{Caller}
use Rattle.cpi_office.specs.declared.caller.Caller.TheVariants.{Desk}
use Rattle.cpi_office.specs.declared.reply.Reply.{Reply}
use Rattle.cpi_wire.specs.Answer.{Answer}
use Rattle.cpi_wire.specs.Answer as answer
use Rattle.cpi_wire.specs.declared.asks.Ask.{Ask}
use Rattle.cpi_wire.specs.declared.asks.Ask.TheVariants as ask
use Rattle.cpi_wire.specs.Answers.{Answers}
use Rattle.cpi_wire.specs.Input.{Record}
use Rattle.cpi_wire.specs.Laws.{requests_of_records, replies_of}
use Rattle.cpi_wire.specs.Record.{ask_of}
use Rattle.cpi_wire.specs.Records.{AnswersAll}
use Rattle.cpi_wire.specs.Rows.{answer_line}

-- the record is of no form, or comes from the caller
abbrev pub IsFrom : Caller → Ask → Type 0
IsFrom k ask.Bad = ⊤
IsFrom k (ask.One t c r) = c ≡ k
IsFrom k (ask.Import t c rows) = c ≡ k

-- the moment of a record; the answer to one of no form depends on no moment
abbrev pub moment_of : Ask → ℕ
moment_of ask.Bad = 0
moment_of (ask.One t c r) = t
moment_of (ask.Import t c rows) = t

abbrev pub all_replies : Answer → List Reply
all_replies (answer.One reply) = reply ∷ []
all_replies (answer.Rows replies) = replies

module _ {B : Type 0} (state : B → State Office) where
  -- The answer to the last record: from a sound office some records were answered, and then this one of the caller. The
  -- store was clean then, and no reply to it says that the office is unavailable.
  pub record IsLastAnswer (zone : ZoneRule) (k : Caller) (start : B) (row : Record) (answered : Answer) : Type 0 where
    pub rows : List Record
    pub replies : List Answer
    pub mid : B
    pub end : B
    pub sound : IsSound (state start).held
    pub before : AnswersAll zone state start rows replies mid
    pub one : Answers state mid (ask_of zone row) answered end
    pub clean : (state end).is_clean
    pub caller : IsFrom k (ask_of zone row)
    pub served : NoneFails (all_replies answered)

  -- what the caller has seen since the start, of the changes accepted before that record
  abbrev pub seen_before : (zone : ZoneRule) (k : Caller) (start : B) (row : Record) (answered : Answer)
      → IsLastAnswer zone k start row answered → List Sight
  seen_before zone k start row answered is =
      let served = all_served (requests_of_records zone is.rows) (replies_of zone is.rows is.replies) in
      sights_of k (moment_of (ask_of zone row)) (trace served (state start).held)

-- Two replays under one zone, over books of any two kinds: if they show a collector, or the public, the same at the
-- moment of a record, at the start and of the changes accepted since, then the answer to the same record of that caller
-- is the same bytes, whatever all others sent. They show the tables published by that moment.
abbrev pub LinesAreAlike : {B C : Type 0} → (B → State Office) → (C → State Office) → Type 0
LinesAreAlike {B} {C} state state' =
    (zone : ZoneRule) (k : Caller) (row : Record) (answered answered' : Answer) (start : B) (start' : C)
    (is : IsLastAnswer state zone k start row answered) (is' : IsLastAnswer state' zone k start' row answered') →
    k ≢ Desk →
    view k (moment_of (ask_of zone row)) (state start).held
    ≡ view k (moment_of (ask_of zone row)) (state' start').held →
    seen_before state zone k start row answered is ≡ seen_before state' zone k start' row answered' is' →
    answer_line answered ≡ answer_line answered'

-- ---- all lines to one collector

abbrev pub is_own : ℕ → Ask → Bool
is_own key ask.Bad = false
is_own key (ask.One t c r) = has_this_key key c
is_own key (ask.Import t c rows) = has_this_key key c

-- the record comes from a collector with another key
abbrev pub is_others : ℕ → Ask → Bool
is_others key ask.Bad = false
is_others key (ask.One t c r) = is_other key c
is_others key (ask.Import t c rows) = is_other key c

abbrev pub records_without : ZoneRule → ℕ → List Record → List Record
records_without zone key rows = filter (λ row. not (is_others key (ask_of zone row))) rows

-- what the records that come with the key were answered, in order
abbrev pub own_answers : ZoneRule → ℕ → List Record → List Answer → List Answer
own_answers zone key [] answers = []
own_answers zone key (row ∷ rows) [] = []
own_answers zone key (row ∷ rows) (a ∷ answers) =
    (if is_own key (ask_of zone row) then a ∷ [] else []) ++ own_answers zone key rows answers

abbrev pub lines_to : ZoneRule → ℕ → List Record → List Answer → List (List ℕ)
lines_to zone key rows answers = map answer_line (own_answers zone key rows answers)

module _ {B : Type 0} (state : B → State Office) where
  -- a replay from a sound office, over a store that is clean at its end, in which no record asks for a freeze or a
  -- hand-over and no reply says that the office is unavailable
  pub record IsReplayed (zone : ZoneRule) (old new : B) (rows : List Record) (answers : List Answer) : Type 0 where
    pub each : AnswersAll zone state old rows answers new
    pub clean : (state new).is_clean
    pub sound : IsSound (state old).held
    pub none_passes_on : NonePassesOn (requests_of_records zone rows)
    pub served : NoneFails (replies_of zone rows answers)

-- Two replays under one zone without a freeze or a hand-over, over books of any two kinds that hold the same lists:
-- if their records differ only in those of other collectors, the lines to a collector are the same, byte for byte.
abbrev pub ReplaysAnswerAlike : {B C : Type 0} → (B → State Office) → (C → State Office) → Type 0
ReplaysAnswerAlike {B} {C} state state' =
    (zone : ZoneRule) (key : ℕ) (old new : B) (old' new' : C)
    (rows others : List Record) (answers answers' : List Answer) →
    IsReplayed state zone old new rows answers → IsReplayed state' zone old' new' others answers' →
    (state old).held ≡ (state' old').held → records_without zone key rows ≡ records_without zone key others →
    lines_to zone key rows answers ≡ lines_to zone key others answers'
