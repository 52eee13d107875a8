-- Equal responses under any rules, any parser and any printer.
use Rattle.std.proofs.Common.{◌≡◌, ◌≢◌, ℕ, List, [], ◌∷◌, ◌++◌, refl, sym, ap, ◌∙◌}
use Rattle.cpi_store.specs.Office.{Office}
use Rattle.cpi_store.specs.Orderly.{IsOrderly}
use Rattle.cpi_office.specs.Projections.{view}
use Rattle.cpi_office.specs.ProjectedChanges.{sights_of, build}
use Rattle.cpi_office.specs.Verdicts.{accepted_changes}
use Rattle.cpi_office.specs.Runs.{request_verdict, reply_to}
use Rattle.cpi_office.specs.Answers.{answer as answer_from}
use Rattle.cpi_office.specs.Entries.{of_collector}
use Rattle.cpi_office.specs.Isolation.{Judgement, Answering, Replying, RepliesByView, JudgesFit, office_next}
use Rattle.cpi_office.specs.Isolation.{office_after, accepted, replies_in_turn}
use Rattle.cpi_office.specs.IsolationOfMessages.{EntryJudgement, JudgesByView, AreOf, ResponsesAreAlike}
use Rattle.cpi_office.specs.declared.caller.Caller.{Caller}
use Rattle.cpi_office.specs.declared.caller.Caller.TheVariants.{Public, Collector, Desk}
use Rattle.cpi_office.specs.declared.request.Request.{Request}
use Rattle.cpi_office.specs.declared.request.Ask.{Ask}
use Rattle.cpi_office.proofs.Isolation.{views_rebuilt, next_orderly, after_orderly, from_view}

module _ (answer : Answering) (entry : EntryJudgement) (reply reply' : Replying) (judge judge' : Judgement)
    (fit : JudgesFit judge) (fit' : JudgesFit judge') (by : JudgesByView entry judge) (by' : JudgesByView entry judge')
    (from : RepliesByView answer reply) (from' : RepliesByView answer reply') (k : Caller) (t : ℕ) (other : k ≢ Desk)
  where
    -- from both one reply
    one_reply : (r : Request) (o u : Office) → view k t o ≡ view k t u → reply t k r o ≡ reply' t k r u
    one_reply r o u same = from_view answer reply from t k r o other ∙ ap (answer t k r) same
        ∙ sym (from_view answer reply' from' t k r u other)

    -- on both offices one verdict
    one_verdict : (c : Caller) → c ≢ Desk → (r : Request) (o u : Office) → view c t o ≡ view c t u →
        judge t c r o ≡ judge' t c r u
    one_verdict Public apart r o u same = by.public t r o ∙ sym (by'.public t r u)
    one_verdict (Collector key) apart r o u same = by.viewed t key r o ∙ ap (entry key t r) same ∙ sym (by'.viewed t key r u)
    one_verdict Desk apart r o u same = absurd (apart refl)

    -- so one view again
    one_view : (r : Request) (o u : Office) → IsOrderly o → IsOrderly u → view k t o ≡ view k t u →
        view k t (office_next judge (record { now = t; caller = k; request = r }) o)
        ≡ view k t (office_next judge' (record { now = t; caller = k; request = r }) u)
    one_view r o u s s' same =
        let a : Ask = record { now = t; caller = k; request = r } in
        views_rebuilt judge fit (a ∷ []) o k t s
        ∙ ap (λ v. build v (sights_of k t (accepted_changes (judge t k r o) ++ []))) same
        ∙ ap (λ w. build (view k t u) (sights_of k t (accepted_changes w ++ []))) (one_verdict k other r o u same)
        ∙ sym (views_rebuilt judge' fit' (a ∷ []) u k t s')

    alike : (asks : List Ask) → AreOf k t asks → (o u : Office) → IsOrderly o → IsOrderly u → view k t o ≡ view k t u →
        replies_in_turn reply judge asks o ≡ replies_in_turn reply' judge' asks u
    alike [] all o u s s' same = refl
    alike (a ∷ asks) all o u s s' same =
        let r = a.request in
        let b : Ask = record { now = t; caller = k; request = r } in
        let is : a ≡ b = λ n. record { now = all.0.1 n; caller = all.0.0 n; request = r } in
        ap (λ x. replies_in_turn reply judge (x ∷ asks) o) is
        ∙ ap (λ x. x ∷ replies_in_turn reply judge asks (office_next judge b o)) (one_reply r o u same)
        ∙ ap (λ rs. reply' t k r u ∷ rs) (alike asks all.1 (office_next judge b o) (office_next judge' b u)
        (next_orderly judge fit b o s) (next_orderly judge' fit' b u s') (one_view r o u s s' same))
        ∙ sym (ap (λ x. replies_in_turn reply' judge' (x ∷ asks) u) is)

pub responses_are_alike : ResponsesAreAlike
responses_are_alike answer entry reply reply' judge judge' fit fit' by by' from from' parse print message k t other are
    asks others o u s s' same sees =
    ap (print message) (alike answer entry reply reply' judge judge' fit fit' by by' from from' k t other (parse message)
    are
    (office_after judge asks o) (office_after judge' others u) (after_orderly judge fit asks o s)
    (after_orderly judge' fit' others u s')
    (views_rebuilt judge fit asks o k t s
    ∙ ap (λ v. build v (sights_of k t (accepted judge asks o))) same
    ∙ ap (build (view k t u)) sees ∙ sym (views_rebuilt judge' fit' others u k t s')))

-- the office replies to all but the desk from their views
pub replied_by_view : RepliesByView answer_from reply_to
replied_by_view = record { public = λ now r o. refl; collector = λ now key r o. refl }

-- the office judges collectors' requests by their views
pub judged_by_view : JudgesByView of_collector request_verdict
judged_by_view = record { public = λ now r o. refl; viewed = λ now key r o. refl }
