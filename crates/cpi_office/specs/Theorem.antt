-- The main theorem, in the order and the letters of THEOREM. An office runs under rules: a verdict on each request, and
-- an answer from a view. Statement 1 says that the program is the office under its own rules. 2 holds under any fit
-- rules; 3 too, but of messages if collectors are judged by their views (JudgesByView); 4 if the rules keep collectors
-- apart (KeepsApart). The office's own are all of these. 5 speaks of the index, 6 of a crash.
use Rattle.std.specs.Prelude.{◌≡◌, List}
use Rattle.cpi_release.specs.State.{State}
use Rattle.cpi_store.specs.Office.{Office}
use Rattle.cpi_store.specs.Orderly.{IsOrderly}
use Rattle.cpi_store.specs.Sound.{IsSound}
use Rattle.cpi_office.specs.Answers.{answer}
use Rattle.cpi_office.specs.Calls.{Lasts}
use Rattle.cpi_office.specs.Entries.{of_collector}
use Rattle.cpi_office.specs.Isolation.{JudgesFit, RepliesByView, office_after, replies_in_turn}
use Rattle.cpi_office.specs.IsolationOfMessages as messages
use Rattle.cpi_office.specs.IsolationOfRequests as requests
use Rattle.cpi_office.specs.Runs.{request_verdict, reply_to}
use Rattle.cpi_office.specs.Served.{RunOverBook, NoneFails, all_served, all_told}
use Rattle.cpi_office.specs.declared.reply.Reply.{Reply}
use Rattle.cpi_office.specs.declared.request.Ask.{Ask}

module _ {B : Type 0} (state : B → State Office) where
  -- a run from a sound office, whose store is clean at the end
  pub record Ran (old new : B) (asks : List Ask) (rs : List Reply) : Type 0 where
    pub over : RunOverBook (state old) (state new) asks rs
    pub sound : IsSound (state old).held
    pub clean : (state new).is_clean

  -- 1. The replies but those of 90 are those of q by ρ, in order, and U = O·q. U is sound.
  abbrev pub TheProgramIsTheOffice : Type 0
  TheProgramIsTheOffice =
      (old new : B) (asks : List Ask) (rs : List Reply) → Ran old new asks rs →
      let O = (state old).held in let U = (state new).held in let q = all_served asks rs in
      (all_told rs ≡ replies_in_turn reply_to request_verdict q O) × (U ≡ office_after request_verdict q O) × IsSound U

  -- 6. If no reply is 90, a crash leaves the office after the last request that changed it.
  abbrev pub ACrashLeavesIt : Type 0
  ACrashLeavesIt =
      (old new : B) (asks : List Ask) (rs : List Reply) → Ran old new asks rs → NoneFails rs →
      Lasts (state old) (state new)

-- 2 to 4. The rules of the office are fit, judge collectors by their views, and keep them apart: so 2 to 4 hold of it.
pub record OwnRulesAreFit : Type 0 where
  pub orderly : (o : Office) → IsSound o → IsOrderly o
  pub fit : JudgesFit request_verdict
  pub replies : RepliesByView answer reply_to
  pub viewed : messages.JudgesByView of_collector request_verdict
  pub apart : requests.KeepsApart request_verdict
