-- What was served over a book is a run of the requests in the messages that its peers sent.
use Rattle.std.specs.Prelude.{◌≡◌, ◌≢◌, ◌⊎◌, ℕ, false, List, [], ◌∷◌, ◌++◌, Option, Some, None, Ok}
use Rattle.std.specs.Io.KnownBytes.{Appends, Consumes}
use Rattle.cpi_release.specs.State.{State}
use Rattle.cpi_store.specs.Office.{Office}
use Rattle.cpi_store.specs.Sound.{IsSound}
use Rattle.cpi_office.specs.Projections.{view}
use Rattle.cpi_office.specs.Served.{RunOverBook}
use Rattle.cpi_office.specs.declared.caller.Caller.{Caller}
use Rattle.cpi_office.specs.declared.caller.Caller.TheVariants as callers
use Rattle.cpi_office.specs.declared.request.Request.{Request}
use Rattle.cpi_wire.specs.Answer.{Answer}
use Rattle.cpi_wire.specs.Laws.{requests_of_asks, replies_of_asks}
use Rattle.cpi_wire.specs.Lines.{IsFrom, moment_of}
use Rattle.cpi_wire.specs.declared.asks.Ask.{Ask}
use Rattle.cpi_wire.specs.declared.asks.Ask.TheVariants as ask
use Rattle.cpi_http.specs.Laws.{CarriedOut, IsLastAnswer, seen_before}
use Rattle.cpi_http.specs.Message.{MessageAsks, Setting, setting}
use Rattle.cpi_http.specs.Response.{ask_in, response_to, body_bytes}
use Rattle.cpi_http.specs.Served.{StreamGives, messages}
use Rattle.cpi_http.specs.declared.serve.Ended.{Ended}
use Rattle.cpi_http.specs.declared.serve.Served.TheVariants as served
use Rattle.cpi_app.specs.Connection.{Connection, ServesAtDesk}
use Rattle.cpi_app.specs.Listener.{Meeting}
use Rattle.cpi_app.specs.Visits.{Visit, Visits, AreServed}
use Rattle.cpi_app.specs.declared.desk.Desk.{Desk}

-- the whole of what a message asks or, of an import, its first rows
abbrev pub IsPart : Ask → Ask → Type 0
IsPart part whole = (part ≡ whole)
    ⊎ ((now : ℕ) × (caller : Caller) × (front : List (Option Request)) × (rest : List (Option Request))
    × (whole ≡ ask.Import now caller (front ++ rest)) × (part ≡ ask.Import now caller front))

module _ (desk : Desk) where
  -- the setting of a connection's message
  abbrev pub setting_of : Connection → Setting
  setting_of came = setting came.moment desk.zone desk.key

  -- the message at the front of what the connection's peer sent asks for this
  pub record AsksIn (came : Connection) (asked : Ask) : Type 0 where
    pub message : MessageAsks
    pub behind : Option (List ℕ)
    pub gives : StreamGives (messages (setting_of came)) came.sent behind message
    pub part : IsPart asked (ask_in message)

  -- Peers of these connections asked for these, each for one or for none, in the order in which the connections came.
  abbrev pub AreAsked : Visits → List Ask → Type 0
  AreAsked [] asks = asks ≡ []
  AreAsked (None ∷ earlier) asks = AreAsked earlier asks
  AreAsked (Some visit ∷ earlier) asks = AreAsked earlier asks
      ⊎ ((before : List Ask) × (last : Ask) × AreAsked earlier before × AsksIn visit.came last
      × (asks ≡ before ++ last ∷ []))

  module _ {B : Type 0} (state : B → State Office) where
    -- what was asked in the messages of some connections was carried out in turn, and nothing else: a run of the
    -- requests
    pub record IsRunOfVisits (old : B) (visits : Visits) (new : B) : Type 0 where
      pub asks : List Ask
      pub answers : List Answer
      pub asked : AreAsked visits asks
      pub carried : CarriedOut state old asks answers new
      pub run : RunOverBook (state old) (state new) (requests_of_asks asks) (replies_of_asks asks answers)

    -- the connection's message was answered last, for this caller, and this is the response that its peer was written
    pub record IsLastServed (k : Caller) (start : B) (came : Connection) (m : MessageAsks) (answered : Answer)
        : Type 0 where
      pub taken : List ℕ
      pub behind : Option (List ℕ)
      pub sent : Consumes came.sent behind taken
      pub last : IsLastAnswer state (setting_of came) k start taken m answered
      pub written : Appends came.written came.writing (body_bytes (response_to m answered))

-- connections that were served over a book are a run
abbrev pub VisitsAreARun : {L B : Type 0} → Meeting L → (B → State Office) → Type 0
VisitsAreARun {L} {B} meets state = (desk : Desk) (first is : L) (old new : B) (visits : Visits)
    → AreServed meets (ServesAtDesk state desk.zone desk.key) first old visits is new
    → IsRunOfVisits desk state old visits new

-- The last of some connections, if it was answered without a 90, got the answer to its message after the others. The
-- office was sound before them, and the store is clean after them.
abbrev pub LastIsAnswered : {L B : Type 0} → Meeting L → (B → State Office) → Type 0
LastIsAnswered {L} {B} meets state = (desk : Desk) (first is : L) (start end : B) (visit : Visit) (earlier : Visits)
    (ended : Ended) (status : ℕ)
    → AreServed meets (ServesAtDesk state desk.zone desk.key) first start (Some visit ∷ earlier) is end
    → visit.outcome ≡ Ok ended → ended.served ≡ served.Answered status false
    → IsSound (state start).held → (state end).is_clean
    → (m : MessageAsks) × (answered : Answer)
    × ((k : Caller) → IsFrom k (ask_in m) → IsLastServed desk state k start visit.came m answered)

-- Books of any two kinds are served with one desk. A collector, or the public, sends the same bytes to each at one
-- moment. If both show that caller the same, at the start and of the changes accepted since, then the response is the
-- same, byte for byte.
abbrev pub ServingsAreAlike : {B C : Type 0} → (B → State Office) → (C → State Office) → Type 0
ServingsAreAlike {B} {C} state state' = (desk : Desk) (k : Caller) (start : B) (start' : C) (came came' : Connection)
    (sent : List ℕ) (m n : MessageAsks) (answered answered' : Answer)
    (is : IsLastServed desk state k start came m answered)
    (is' : IsLastServed desk state' k start' came' n answered')
    → came.sent ≡ Some sent → came'.sent ≡ Some sent → came'.moment ≡ came.moment → k ≢ callers.Desk
    → view k (moment_of (ask_in m)) (state start).held ≡ view k (moment_of (ask_in m)) (state' start').held
    → seen_before state (setting_of desk came) k start is.taken m answered is.last
    ≡ seen_before state' (setting_of desk came') k start' is'.taken n answered' is'.last
    → body_bytes (response_to m answered) ≡ body_bytes (response_to n answered')
