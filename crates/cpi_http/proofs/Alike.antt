-- The answer to a message of a caller depends only on what that caller sees: an instance of equal responses under any
-- rules, any parser and any printer.
use Rattle.std.proofs.Common.{◌≡◌, ◌≢◌, ◌∙◌, sym, ap, refl, subst, ℕ, List, []}
use Rattle.cpi_release.specs.State.{State}
use Rattle.cpi_store.specs.Office.{Office}
use Rattle.cpi_store.specs.Sound.{IsSound}
use Rattle.cpi_office.specs.Projections.{view}
use Rattle.cpi_office.specs.Runs.{replies, after}
use Rattle.cpi_office.specs.Served.{all_served}
use Rattle.cpi_office.specs.declared.caller.Caller.{Caller}
use Rattle.cpi_office.specs.declared.caller.Caller.TheVariants.{Desk}
use Rattle.cpi_office.proofs.RebuiltProjections.{sound_runs}
use Rattle.cpi_wire.specs.Answer.{Answer}
use Rattle.cpi_wire.specs.Laws.{requests_of_record, requests_of_asks, replies_of_asks}
use Rattle.cpi_wire.specs.Lines.{moment_of}
use Rattle.cpi_wire.proofs.Alike.{printed_alike}
use Rattle.cpi_wire.proofs.Printed.{answer_is, record_clean}
use Rattle.cpi_wire.proofs.Runs.{asks_are_a_run}
use Rattle.cpi_http.specs.Laws.{AreMessagesOfARun, IsLastAnswer, ResponsesAreAlike, ResponsesArePrinted, seen_before}
use Rattle.cpi_http.specs.Laws.{printed_response}
use Rattle.cpi_http.specs.Message.{MessageAsks, Setting}
use Rattle.cpi_http.specs.Response.{ask_in, response_to, body_bytes}
use Rattle.cpi_http.proofs.Unique.{message_unique}

pub responses_are_printed : {B : Type 0} (state : B → State Office) → ResponsesArePrinted state
responses_are_printed state m answered old new a clean sound fair =
    ap (λ t. body_bytes (response_to m t)) (answer_is state (ask_in m) old new answered a clean sound fair)

module _ {B : Type 0} (state : B → State Office) where
  pub messages_are_a_run : AreMessagesOfARun state
  messages_are_a_run old new asks answers a = asks_are_a_run state old new asks answers a

  -- the office that a caller's message meets
  pub meets : (s : Setting) (k : Caller) (start : B) (taken : List ℕ) (m : MessageAsks) (answered : Answer)
      (is : IsLastAnswer state s k start taken m answered)
      → IsSound (state is.mid).held × ((state is.mid).held ≡ after
      (all_served (requests_of_asks is.asks) (replies_of_asks is.asks is.answers)) (state start).held)
  meets s k start taken m answered is =
      let ran = messages_are_a_run start is.mid is.asks is.answers is.before in
      let run = ran.run (record_clean state is.mid is.end (ask_in m) answered is.one is.clean) is.sound in
      let front = all_served (requests_of_asks is.asks) (replies_of_asks is.asks is.answers) in
      (subst IsSound (sym run.office) (sound_runs front (state start).held is.sound), run.office)

  -- its response is what the office prints after the requests before it
  response_is : (s : Setting) (k : Caller) (start : B) (taken : List ℕ) (m : MessageAsks) (answered : Answer)
      (is : IsLastAnswer state s k start taken m answered)
      → body_bytes (response_to m answered) ≡ printed_response m (replies (requests_of_record (ask_in m)) (after
      (all_served (requests_of_asks is.asks) (replies_of_asks is.asks is.answers)) (state start).held))
  response_is s k start taken m answered is =
      let met = meets s k start taken m answered is in
      responses_are_printed state m answered is.mid is.end is.one is.clean met.0 is.served
      ∙ ap (λ o. printed_response m (replies (requests_of_record (ask_in m)) o)) met.1

-- the same message over two books
same_message : {B C : Type 0} (state : B → State Office) (state' : C → State Office)
    (s : Setting) (k : Caller) (taken : List ℕ) (m : MessageAsks) (answered answered' : Answer) (start : B) (start' : C)
    (is : IsLastAnswer state s k start taken m answered) (is' : IsLastAnswer state' s k start' taken m answered')
    → k ≢ Desk
    → view k (moment_of (ask_in m)) (state start).held ≡ view k (moment_of (ask_in m)) (state' start').held
    → seen_before state s k start taken m answered is ≡ seen_before state' s k start' taken m answered' is'
    → body_bytes (response_to m answered) ≡ body_bytes (response_to m answered')
same_message state state' s k taken m answered answered' start start' is is' other same shown =
    response_is state s k start taken m answered is
    ∙ printed_alike (printed_response m) (ask_in m) k other is.caller
    (all_served (requests_of_asks is.asks) (replies_of_asks is.asks is.answers))
    (all_served (requests_of_asks is'.asks) (replies_of_asks is'.asks is'.answers))
    (state start).held (state' start').held is.sound is'.sound same shown
    ∙ sym (response_is state' s k start' taken m answered' is')

pub responses_are_alike : {B C : Type 0} (state : B → State Office) (state' : C → State Office)
    → ResponsesAreAlike state state'
responses_are_alike state state' s k taken m n answered answered' start start' is is' other same shown =
    subst (λ x. (i : IsLastAnswer state' s k start' taken x answered')
    → seen_before state s k start taken m answered is ≡ seen_before state' s k start' taken x answered' i
    → body_bytes (response_to m answered) ≡ body_bytes (response_to x answered'))
    (message_unique s taken taken [] [] m n refl is.message is'.message)
    (λ i z. same_message state state' s k taken m answered answered' start start' is i other same z)
    is' shown
