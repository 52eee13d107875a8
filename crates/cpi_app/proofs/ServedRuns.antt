-- Connections that were served over a book are a run of the requests in their messages.
use Rattle.std.proofs.Common.{◌≡◌, ◌≢◌, ◌∙◌, refl, sym, ap, subst, ℕ, false, List, [], ◌∷◌, ◌++◌}
use Rattle.std.proofs.Common.{Option, Some, None, Ok, Err, inl, inr}
use Rattle.std.proofs.lemmas.Bool.{or_parts}
use Rattle.std.specs.Prelude.{◌⊎◌}
use Rattle.std.specs.Io.KnownBytes.{Consumes}
use Rattle.cpi_release.specs.State.{State}
use Rattle.cpi_store.specs.Office.{Office}
use Rattle.cpi_store.specs.Sound.{IsSound}
use Rattle.cpi_office.specs.Calls.{is_failure_of}
use Rattle.cpi_office.specs.Projections.{view}
use Rattle.cpi_office.specs.Served.{NoneFails}
use Rattle.cpi_office.specs.declared.caller.Caller.{Caller}
use Rattle.cpi_office.specs.declared.caller.Caller.TheVariants as callers
use Rattle.cpi_office.specs.declared.reply.Reply.{Reply}
use Rattle.cpi_office.specs.declared.request.Request.{Request}
use Rattle.cpi_wire.specs.Answer.{Answer}
use Rattle.cpi_wire.specs.Answer as answer
use Rattle.cpi_wire.specs.Answers.{Answers, Begins, RowsAnswer, some_fails}
use Rattle.cpi_wire.specs.Lines.{IsFrom, all_replies, moment_of}
use Rattle.cpi_wire.specs.declared.asks.Ask.{Ask}
use Rattle.cpi_wire.specs.declared.asks.Ask.TheVariants as ask
use Rattle.cpi_wire.specs.declared.fault.WireFault.TheVariants as fault
use Rattle.cpi_wire.proofs.Answered.{in_turn_more}
use Rattle.cpi_http.specs.Laws.{AreMessagesOfARun, CarriedOut, IsLastAnswer, OneMessage, ResponsesAreAlike, seen_before}
use Rattle.cpi_http.specs.Message.{IsMessage, MessageAsks, Setting, setting}
use Rattle.cpi_http.specs.Response.{ask_in, response_to, body_bytes}
use Rattle.cpi_http.specs.Served.{IsAnswered, IsServed, StreamGives, messages, served_change}
use Rattle.cpi_http.specs.declared.serve.Served.{Served}
use Rattle.cpi_http.specs.declared.serve.Served.TheVariants as served
use Rattle.cpi_app.specs.Connection.{Connection, Outcome, ServesAtDesk}
use Rattle.cpi_app.specs.Listener.{Meeting}
use Rattle.cpi_app.specs.ServedRuns.{AreAsked, AsksIn, IsLastServed, IsPart, LastIsAnswered, ServingsAreAlike}
use Rattle.cpi_app.specs.ServedRuns.{VisitsAreARun, setting_of}
use Rattle.cpi_app.specs.Visits.{AreServed, Visit, Visits}
use Rattle.cpi_app.specs.declared.desk.Desk.{Desk}

module _ {B : Type 0} (state : B → State Office) where
  -- a part of this was carried out, or nothing
  abbrev CarriesPart : Ask → B → B → Type 0
  CarriesPart whole old new =
      (new ≡ old) ⊎ ((part : Ask) × (answered : Answer) × IsPart part whole × Answers state old part answered new)

  -- of one request, all was carried out or nothing
  one_begun : (now : ℕ) (caller : Caller) (request : Request) (old new : B) (front rest : List (Option Request))
      (replies : List Reply) → Some request ∷ [] ≡ front ++ rest → RowsAnswer state now caller old front replies new
      → CarriesPart (ask.One now caller request) old new
  one_begun now caller request old new [] rest [] split answers = inl answers
  one_begun now caller request old new [] rest (reply ∷ replies) split answers = absurd answers
  one_begun now caller request old new (row ∷ front) rest [] split answers = absurd answers
  one_begun now caller request old new (row ∷ []) rest (reply ∷ []) split answers =
      let is : row ≡ Some request = cc in
      let done = rw is at answers.1 in
      inr (ask.One now caller request, answer.One reply, inl refl, rw answers.2 done)
  one_begun now caller request old new (row ∷ []) rest (reply ∷ more ∷ replies) split answers = absurd answers.2
  one_begun now caller request old new (row ∷ next ∷ front) rest (reply ∷ replies) split answers =
      absurd (let no = split in cc)

  begun : (whole : Ask) (old new : B) → Begins state old whole new → CarriesPart whole old new
  begun ask.Bad old new h = inl h
  begun (ask.One now caller request) old new h =
      one_begun now caller request old new h.front h.rest h.replies h.split h.answers
  begun (ask.Import now caller rows) old new h = inr (
    ask.Import now caller h.front,
    answer.Rows h.replies,
    inr (now, caller, h.front, h.rest, ap (λ r. ask.Import now caller r) h.split, refl),
    h.answers,
  )

  module _ (desk : Desk) where
    -- the part of a connection's message that was carried out, or nothing
    abbrev CarriesIn : Connection → B → B → Type 0
    CarriesIn came old new = (new ≡ old)
        ⊎ ((asked : Ask) × (answered : Answer) × AsksIn desk came asked × Answers state old asked answered new)

    served_in : (came : Connection) (old new : B) (behind : Option (List ℕ)) (it : Served)
        → IsServed state (messages (setting_of desk came)) came.sent behind
        (served_change old new came.written came.writing) it → CarriesIn came old new
    served_in came old new behind (served.Answered status failed) h = inr (
      ask_in h.asked,
      h.answered,
      record { message = h.asked; behind = behind; gives = h.gives; part = inl refl },
      h.answers,
    )
    served_in came old new behind served.Cut h = inl h.1

    in_message : (came : Connection) (old new : B) (behind : Option (List ℕ)) (m : MessageAsks)
        → StreamGives (messages (setting_of desk came)) came.sent behind m → CarriesPart (ask_in m) old new
        → CarriesIn came old new
    in_message came old new behind m gives (inl same) = inl same
    in_message came old new behind m gives (inr h) =
        inr (h.0, h.1, record { message = m; behind = behind; gives = gives; part = h.2 }, h.3)

    cut_short : (came : Connection) (old new : B) (behind : Option (List ℕ))
        → (new ≡ old) ⊎ ((m : MessageAsks) × StreamGives (messages (setting_of desk came)) came.sent behind m
        × Begins state old (ask_in m) new) → CarriesIn came old new
    cut_short came old new behind (inl same) = inl same
    cut_short came old new behind (inr h) = in_message came old new behind h.0 h.1 (begun (ask_in h.0) old new h.2)

    carried_in : (came : Connection) (old new : B) (outcome : Outcome)
        → ServesAtDesk state desk.zone desk.key old came outcome new → CarriesIn came old new
    carried_in came old new (Ok ended) h = served_in came old new h.0 ended.served h.1
    carried_in came old new (Err fault.Read) h = inl h.1.0
    carried_in came old new (Err fault.Write) h = inr (
      ask_in h.1.asked,
      h.1.answered,
      record { message = h.1.asked; behind = h.0; gives = h.1.gives; part = inl refl },
      h.1.answers,
    )
    carried_in came old new (Err fault.NoMemory) h = cut_short came old new h.0 h.1.0

    -- so many connections, and what was carried out of their messages
    pub record HasRun (old : B) (visits : Visits) (new : B) : Type 0 where
      pub asks : List Ask
      pub answers : List Answer
      pub asked : AreAsked desk visits asks
      pub carried : CarriedOut state old asks answers new

    one_more : (old mid new : B) (visit : Visit) (earlier : Visits) → HasRun old earlier mid
        → CarriesIn visit.came mid new → HasRun old (Some visit ∷ earlier) new
    one_more old mid new visit earlier before (inl same) = record {
      asks = before.asks;
      answers = before.answers;
      asked = inl before.asked;
      carried = rw same before.carried;
    }
    one_more old mid new visit earlier before (inr h) = record {
      asks = before.asks ++ h.0 ∷ [];
      answers = before.answers ++ h.1 ∷ [];
      asked = inr (before.asks, h.0, before.asked, h.2, refl);
      carried = in_turn_more (Answers state) old mid new before.asks before.answers h.0 h.1 before.carried h.3;
    }

    module _ {L : Type 0} (meets : Meeting L) where
      pub has_run : (first is : L) (old new : B) (visits : Visits)
          → AreServed meets (ServesAtDesk state desk.zone desk.key) first old visits is new → HasRun old visits new
      has_run first is old new [] h = record { asks = []; answers = []; asked = refl; carried = h.1 }
      has_run first is old new (None ∷ earlier) h =
          let before = has_run first h.0 old new earlier h.1 in
          record { asks = before.asks; answers = before.answers; asked = before.asked; carried = before.carried }
      has_run first is old new (Some visit ∷ earlier) h =
          one_more old h.1 new visit earlier (has_run first h.0 old h.1 earlier h.2)
          (carried_in visit.came h.1 new visit.outcome h.4)

pub visits_are_a_run : {L B : Type 0} (meets : Meeting L) (state : B → State Office) → AreMessagesOfARun state
    → VisitsAreARun meets state
visits_are_a_run meets state runs desk first is old new visits h =
    let ran = has_run state desk meets first is old new visits h in
    record {
      asks = ran.asks;
      answers = ran.answers;
      asked = ran.asked;
      carried = ran.carried;
      run = runs old new ran.asks ran.answers ran.carried;
    }

-- no reply is 90
none_fails : (rs : List Reply) → some_fails rs ≡ false → NoneFails rs
none_fails [] h = tt
none_fails (r ∷ rs) h =
    let parts = or_parts (is_failure_of r) (some_fails rs) h in
    (parts.0, none_fails rs parts.1)

-- a message that was answered whole, after those that were carried out before it
answered_last : {B : Type 0} (state : B → State Office) (desk : Desk) (came : Connection) (start mid end : B)
    (visits : Visits) → HasRun state desk start visits mid → IsSound (state start).held → (state end).is_clean
    → (behind : Option (List ℕ)) (status : ℕ)
    → IsAnswered state (messages (setting_of desk came)) came.sent behind
    (served_change mid end came.written came.writing) status false
    → (m : MessageAsks) × (answered : Answer)
    × ((k : Caller) → IsFrom k (ask_in m) → IsLastServed desk state k start came m answered)
answered_last state desk came start mid end visits before sound clean behind status one = (
  one.asked,
  one.answered,
  λ k from. record {
    taken = one.gives.0;
    behind = behind;
    sent = one.gives.1;
    last = record {
      asks = before.asks;
      answers = before.answers;
      mid = mid;
      end = end;
      sound = sound;
      before = before.carried;
      message = one.gives.2;
      one = one.answers;
      clean = clean;
      caller = from;
      served = none_fails (all_replies one.answered) (sym one.failed_is);
    };
    written = one.written;
  },
)

pub last_is_answered : {L B : Type 0} (meets : Meeting L) (state : B → State Office) → LastIsAnswered meets state
last_is_answered meets state desk first is start end visit earlier ended status h outcome answered sound clean =
    let front = subst (λ o. ServesAtDesk state desk.zone desk.key h.1 visit.came o end) outcome h.4 in
    answered_last state desk visit.came start h.1 end earlier
    (has_run state desk meets first h.0 start h.1 earlier h.2) sound clean front.0 status
    (subst (λ it. IsServed state (messages (setting_of desk visit.came)) visit.came.sent front.0
    (served_change h.1 end visit.came.written visit.came.writing) it) answered front.1)

-- ---- two servings

-- the bytes that were taken of the same ones are the front of these
front_of : (sent taken : List ℕ) (all behind : Option (List ℕ)) → all ≡ Some sent → Consumes all behind taken
    → (rest : List ℕ) × (sent ≡ taken ++ rest)
front_of sent taken None behind is h = absurd (let no = is in cc)
front_of sent taken (Some xs) None is h = absurd h
front_of sent taken (Some xs) (Some rest) is h = let same : xs ≡ sent = cc in (rest, sym same ∙ h)

-- the same message, of the same bytes
alike_last : {B C : Type 0} (state : B → State Office) (state' : C → State Office) → ResponsesAreAlike state state'
    → (s : Setting) (k : Caller) (taken other : List ℕ) (m n : MessageAsks) (answered answered' : Answer)
    (start : B) (start' : C) (is : IsLastAnswer state s k start taken m answered)
    (is' : IsLastAnswer state' s k start' other n answered') → m ≡ n → k ≢ callers.Desk
    → view k (moment_of (ask_in m)) (state start).held ≡ view k (moment_of (ask_in m)) (state' start').held
    → seen_before state s k start taken m answered is ≡ seen_before state' s k start' other n answered' is'
    → body_bytes (response_to m answered) ≡ body_bytes (response_to n answered')
alike_last state state' alike s k taken other m n answered answered' start start' is is' same caller views shown =
    alike s k taken m n answered answered' start start' is (record {
      asks = is'.asks;
      answers = is'.answers;
      mid = is'.mid;
      end = is'.end;
      sound = is'.sound;
      before = is'.before;
      message = subst (λ x. IsMessage s taken x) same is.message;
      one = is'.one;
      clean = is'.clean;
      caller = is'.caller;
      served = is'.served;
    }) caller views shown

-- the messages at the front of the same bytes
alike_at : {B C : Type 0} (state : B → State Office) (state' : C → State Office) → OneMessage
    → ResponsesAreAlike state state' → (s : Setting) (k : Caller) (sent taken other : List ℕ)
    (all all' behind behind' : Option (List ℕ)) (m n : MessageAsks) (answered answered' : Answer)
    (start : B) (start' : C) → all ≡ Some sent → all' ≡ Some sent
    → Consumes all behind taken → Consumes all' behind' other
    → (is : IsLastAnswer state s k start taken m answered) (is' : IsLastAnswer state' s k start' other n answered')
    → k ≢ callers.Desk
    → view k (moment_of (ask_in m)) (state start).held ≡ view k (moment_of (ask_in m)) (state' start').held
    → seen_before state s k start taken m answered is ≡ seen_before state' s k start' other n answered' is'
    → body_bytes (response_to m answered) ≡ body_bytes (response_to n answered')
alike_at state state' unique alike s k sent taken other all all' behind behind' m n answered answered' start start'
    first second front front' is is' caller views shown =
    let one = front_of sent taken all behind first front in
    let two = front_of sent other all' behind' second front' in
    alike_last state state' alike s k taken other m n answered answered' start start' is is'
    (unique s taken other one.0 two.0 m n (sym one.1 ∙ two.1) is.message is'.message) caller views shown

pub servings_are_alike : {B C : Type 0} (state : B → State Office) (state' : C → State Office) → OneMessage
    → ResponsesAreAlike state state' → ServingsAreAlike state state'
servings_are_alike state state' unique alike desk k start start' came came' sent m n answered answered' is is' first
    second when caller views shown =
    subst (λ t. (last' : IsLastAnswer state' (setting t desk.zone desk.key) k start' is'.taken n answered')
    → seen_before state (setting_of desk came) k start is.taken m answered is.last
    ≡ seen_before state' (setting t desk.zone desk.key) k start' is'.taken n answered' last'
    → body_bytes (response_to m answered) ≡ body_bytes (response_to n answered'))
    (sym when)
    (λ last' seen. alike_at state state' unique alike (setting_of desk came) k sent is.taken is'.taken came.sent
    came'.sent is.behind is'.behind m n answered answered' start start' first second is.sent is'.sent is.last last'
    caller views seen)
    is'.last shown
