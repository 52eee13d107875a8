-- Equal responses under any rules, any parser and any printer: a message of one caller at one moment has the same
-- response from two offices that have shown the caller the same.
use Rattle.std.specs.Prelude.{◌≡◌, ◌≢◌, ℕ, List, Option, None}
use Rattle.std.specs.List.{AllByRecursion}
use Rattle.cpi_store.specs.Office.{Office}
use Rattle.cpi_store.specs.Orderly.{IsOrderly}
use Rattle.cpi_office.specs.Projections.{View, view}
use Rattle.cpi_office.specs.ProjectedChanges.{sights_of}
use Rattle.cpi_office.specs.Verdicts.{Verdict}
use Rattle.cpi_office.specs.Isolation.{Judgement, Answering, Replying, RepliesByView, JudgesFit}
use Rattle.cpi_office.specs.Isolation.{office_after, accepted, replies_in_turn}
use Rattle.cpi_office.specs.declared.caller.Caller.{Caller}
use Rattle.cpi_office.specs.declared.caller.Caller.TheVariants.{Public, Collector, Desk}
use Rattle.cpi_office.specs.declared.request.Request.{Request}
use Rattle.cpi_office.specs.declared.request.Ask.{Ask}
use Rattle.cpi_office.specs.declared.reply.Reply.{Reply}

-- the verdict on the request of the collector with a key, at a moment, from the collector's view
abbrev pub EntryJudgement : Type 0
EntryJudgement = ℕ → ℕ → Request → View → Option Verdict

-- a judgement that judges collectors' requests so, and none of the public's
pub record JudgesByView (entry : EntryJudgement) (judge : Judgement) : Type 0 where
  pub public : (now : ℕ) (r : Request) (o : Office) → judge now Public r o ≡ None
  pub viewed : (now key : ℕ) (r : Request) (o : Office) →
      judge now (Collector key) r o ≡ entry key now r (view (Collector key) now o)

-- all of one caller, at one moment
abbrev pub AreOf : Caller → ℕ → List Ask → Type 0
AreOf k t asks = AllByRecursion (λ a. (a.caller ≡ k) × (a.now ≡ t)) asks

-- Under any two such judgements, whatever an answer makes of a view, a parser of a message and a printer of the replies:
-- if a caller starts with one view of two offices and has seen the same of both since, the same message of that caller
-- has the same response, byte for byte.
abbrev pub ResponsesAreAlike : Type 0
ResponsesAreAlike =
    (answer : Answering) (entry : EntryJudgement) (reply reply' : Replying) (judge judge' : Judgement) →
    JudgesFit judge → JudgesFit judge' → JudgesByView entry judge → JudgesByView entry judge' →
    RepliesByView answer reply → RepliesByView answer reply' →
    (parse : List ℕ → List Ask) (print : List ℕ → List Reply → List ℕ) (message : List ℕ) (k : Caller) (t : ℕ) →
    k ≢ Desk → AreOf k t (parse message) →
    (asks others : List Ask) (o u : Office) → IsOrderly o → IsOrderly u →
    view k t o ≡ view k t u → sights_of k t (accepted judge asks o) ≡ sights_of k t (accepted judge' others u) →
    print message (replies_in_turn reply judge (parse message) (office_after judge asks o))
    ≡ print message (replies_in_turn reply' judge' (parse message) (office_after judge' others u))
