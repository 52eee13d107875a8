-- Non-interference between two offices over books of any two kinds.
use Rattle.std.proofs.Common.{◌≡◌, ◌≢◌, ℕ, List, inl, inr, sym, ap, ◌∙◌}
use Rattle.std.proofs.lemmas.Bool.{false≢true}
use Rattle.cpi_store.specs.Office.{Office}
use Rattle.cpi_office.specs.Projections.{view}
use Rattle.cpi_office.specs.Answers.{answer}
use Rattle.cpi_office.specs.Runs.{request_verdict, reply_to, after_one, after}
use Rattle.cpi_release.specs.State.{State}
use Rattle.cpi_office.specs.Calls.{IsServed, is_failure_of}
use Rattle.cpi_office.specs.Served.{all_served}
use Rattle.cpi_office.specs.NonInterferenceBetweenOffices.{AsksAfter, RepliesAreAlike}
use Rattle.cpi_office.specs.declared.request.Ask.{Ask}
use Rattle.cpi_office.specs.declared.reply.Reply.{Reply}
use Rattle.cpi_office.specs.declared.caller.Caller.{Caller}
use Rattle.cpi_office.specs.declared.caller.Caller.TheVariants.{Desk}
use Rattle.cpi_office.specs.declared.request.Request.{Request}
use Rattle.cpi_office.proofs.Fit.{judged_fit}
use Rattle.cpi_office.proofs.Isolation.{answers_are_alike, from_view}
use Rattle.cpi_office.proofs.IsolationOfMessages.{replied_by_view}
use Rattle.cpi_office.proofs.Served.{run_sound}

module _ (old mid new : State Office) (asks : List Ask) (rs : List Reply) (t : ℕ) (k : Caller) (r : Request)
    (reply : Reply) where
  -- the reply is the answer from the view that the run left
  reply_is : k ≢ Desk → AsksAfter old mid new asks rs t k r reply →
      reply ≡ answer t k r (view k t (after (all_served asks rs) old.held))
  reply_is other asked =
      let before = asked.serves.was_clean asked.clean in
      let run = asked.ran.run before asked.sound in
      cases (asked.serves.served asked.clean (run_sound old.held mid.held asks rs run asked.sound))
      ∙ from_view answer reply_to replied_by_view t k r mid.held other ∙ ap (λ o. answer t k r (view k t o)) run.office
    where
      cases : IsServed reply (reply_to t k r mid.held) mid.held new.held (after_one t k r mid.held) →
          reply ≡ reply_to t k r mid.held
      cases (inl h) = h.0
      cases (inr h) = absurd (false≢true (sym asked.told ∙ ap is_failure_of h.0))

pub replies_are_alike : {B C : Type 0} (state : B → State Office) (state' : C → State Office) →
    RepliesAreAlike state state'
replies_are_alike state state' t k r asks others rs ss reply reply' old mid new old' mid' new' other one two same sees =
    reply_is (state old) (state mid) (state new) asks rs t k r reply other one
    ∙ answers_are_alike answer request_verdict request_verdict judged_fit judged_fit (all_served asks rs)
    (all_served others ss) (state old).held (state' old').held k t r one.sound.orderly two.sound.orderly
    same sees
    ∙ sym (reply_is (state' old') (state' mid') (state' new') others ss t k r reply' other two)
