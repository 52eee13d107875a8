-- What the responses to a caller depend on.
use Rattle.std.specs.Prelude.{◌≡◌, ◌≢◌, ℕ, List, ◌++◌, Option, Some, Ok}
use Rattle.cpi_release.specs.State.{State}
use Rattle.cpi_release.specs.declared.form.Form.{Form}
use Rattle.cpi_store.specs.Office.{Office}
use Rattle.cpi_store.specs.Sound.{IsSound}
use Rattle.cpi_office.specs.ComputedTables.{computed_reply, IsKnown, TellTables}
use Rattle.cpi_office.specs.OneChange.{ChangesRows}
use Rattle.cpi_office.specs.Runs.{replies, trace}
use Rattle.cpi_office.specs.Served.{RunOverBook, all_served, NoneFails}
use Rattle.cpi_office.specs.ProjectedChanges.{Sight, sights_of}
use Rattle.cpi_office.specs.Projections.{view}
use Rattle.cpi_office.specs.declared.caller.Caller.{Caller}
use Rattle.cpi_office.specs.declared.caller.Caller.TheVariants.{Desk}
use Rattle.cpi_office.specs.declared.reply.Reply.{Reply}
use Rattle.cpi_office.specs.declared.request.Request.TheVariants.{Table}
use Rattle.cpi_wire.specs.Answer.{Answer}
use Rattle.cpi_wire.specs.Answers.{Answers, InTurn}
use Rattle.cpi_wire.specs.Laws.{requests_of_record, requests_of_asks, replies_of_asks}
use Rattle.cpi_wire.specs.Lines.{IsFrom, all_replies, moment_of}
use Rattle.cpi_wire.specs.Printed.{answer_with}
use Rattle.cpi_wire.specs.declared.asks.Ask.{Ask}
use Rattle.cpi_wire.specs.declared.asks.Ask.TheVariants as ask
use Rattle.cpi_http.specs.Message.{MessageAsks, Setting, IsMessage}
use Rattle.cpi_http.specs.Response.{ask_in, response_to, body_bytes, said_of}

-- two messages at the front of one stream are the same
abbrev pub OneMessage : Type 0
OneMessage =
    (s : Setting) (taken other left rest : List ℕ) (m n : MessageAsks) → taken ++ left ≡ other ++ rest →
    IsMessage s taken m → IsMessage s other n → m ≡ n

module _ {B : Type 0} (state : B → State Office) where
  -- the messages were carried out in turn, each with its answer
  abbrev pub CarriedOut : B → List Ask → List Answer → B → Type 0
  CarriedOut old asks answers new = InTurn (Answers state) old asks answers new

  -- The answer to the last message: from a sound office some messages were answered, and then this one of the caller.
  -- The store was clean then, and no reply to it says that the office is unavailable.
  pub record IsLastAnswer (s : Setting) (k : Caller) (start : B) (taken : List ℕ) (m : MessageAsks)
      (answered : Answer) : Type 0 where
    pub asks : List Ask
    pub answers : List Answer
    pub mid : B
    pub end : B
    pub sound : IsSound (state start).held
    pub before : CarriedOut start asks answers mid
    pub message : IsMessage s taken m
    pub one : Answers state mid (ask_in m) answered end
    pub clean : (state end).is_clean
    pub caller : IsFrom k (ask_in m)
    pub served : NoneFails (all_replies answered)

  -- what the caller has seen since the start, of the changes accepted before that message
  abbrev pub seen_before : (s : Setting) (k : Caller) (start : B) (taken : List ℕ) (m : MessageAsks)
      (answered : Answer) → IsLastAnswer s k start taken m answered → List Sight
  seen_before s k start taken m answered is =
      let served = all_served (requests_of_asks is.asks) (replies_of_asks is.asks is.answers) in
      sights_of k (moment_of (ask_in m)) (trace served (state start).held)

-- messages that were carried out in turn are a run of their requests
abbrev pub AreMessagesOfARun : {B : Type 0} → (B → State Office) → Type 0
AreMessagesOfARun {B} state =
    (old new : B) (asks : List Ask) (answers : List Answer) → CarriedOut state old asks answers new →
    RunOverBook (state old) (state new) (requests_of_asks asks) (replies_of_asks asks answers)

-- Messages that were carried out in turn, from a sound office, changed only rows that their requests asked for, at most
-- one each, of a hand-over two; and each caller's view is the view before, with what the caller sees of those rows. A
-- request that was answered 90 changed nothing. The store is clean once the messages are carried out.
abbrev pub MessagesChangeRows : {B : Type 0} → (B → State Office) → Type 0
MessagesChangeRows {B} state =
    (old new : B) (asks : List Ask) (answers : List Answer) → CarriedOut state old asks answers new →
    (state new).is_clean → IsSound (state old).held →
    ChangesRows (all_served (requests_of_asks asks) (replies_of_asks asks answers)) (state old).held (state new).held

-- the response to a message, with these replies to its requests
abbrev pub printed_response : MessageAsks → List Reply → List ℕ
printed_response m rs = body_bytes (response_to m (answer_with (ask_in m) rs))

-- A message of any caller, the desk too, that a sound office answers without a 90: its response is what the office's
-- replies to its requests print. The store is clean once it is answered.
abbrev pub ResponsesArePrinted : {B : Type 0} → (B → State Office) → Type 0
ResponsesArePrinted {B} state =
    (m : MessageAsks) (answered : Answer) (old new : B) →
    Answers state old (ask_in m) answered new → (state new).is_clean → IsSound (state old).held →
    NoneFails (all_replies answered) →
    body_bytes (response_to m answered)
    ≡ printed_response m (replies (requests_of_record (ask_in m)) (state old).held)

-- In two runs under one zone and one desk key, over books of any two kinds: if they show a collector, or the public,
-- the same at the moment of a message, at the start and of the changes accepted since, then the same message of that
-- caller has the same response, byte for byte, whatever all others sent.
abbrev pub ResponsesAreAlike : {B C : Type 0} → (B → State Office) → (C → State Office) → Type 0
ResponsesAreAlike {B} {C} state state' =
    (s : Setting) (k : Caller) (taken : List ℕ) (m n : MessageAsks) (answered answered' : Answer)
    (start : B) (start' : C) (is : IsLastAnswer state s k start taken m answered)
    (is' : IsLastAnswer state' s k start' taken n answered') → k ≢ Desk →
    view k (moment_of (ask_in m)) (state start).held ≡ view k (moment_of (ask_in m)) (state' start').held →
    seen_before state s k start taken m answered is ≡ seen_before state' s k start' taken n answered' is' →
    body_bytes (response_to m answered) ≡ body_bytes (response_to n answered')

-- From a sound office some messages were answered, and then one that asks for a table: its response is that of the
-- printed table that the index gives over the quotes and weights frozen by then, in the revision that is named, or else
-- in the latest that is published; if there is none, that of the refusal.
abbrev pub TableResponsesAreComputed : {B : Type 0} → (B → State Office) → Type 0
TableResponsesAreComputed {B} state =
    (s : Setting) (k : Caller) (taken : List ℕ) (m : MessageAsks) (answered : Answer) (start : B)
    (is : IsLastAnswer state s k start taken m answered) (now month : ℕ) (form : Form) (revision : Option ℕ) →
    m ≡ Ok (ask.One now k (Table month form revision)) → IsKnown k (state is.mid).held →
    body_bytes (response_to m answered)
    ≡ body_bytes (said_of (Some form) (computed_reply now month form revision (state is.mid).held))

-- All replies to requests for tables in messages that were carried out in turn, including rows of imports, are so.
abbrev pub MessagesReportTables : {B : Type 0} → (B → State Office) → Type 0
MessagesReportTables {B} state =
    (old new : B) (asks : List Ask) (answers : List Answer) → CarriedOut state old asks answers new →
    (state new).is_clean → IsSound (state old).held →
    TellTables (state old).held (requests_of_asks asks) (replies_of_asks asks answers)
