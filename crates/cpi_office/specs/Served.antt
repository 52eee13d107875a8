-- Runs in which a request may be answered 90, and then changes nothing.
use Rattle.std.specs.List.{AllByRecursion}
use Rattle.std.specs.Prelude.{◌≡◌, IsFalse, List, [], ◌∷◌, ◌++◌, if◌then◌else◌}
use Rattle.cpi_release.specs.State.{State}
use Rattle.cpi_store.specs.Office.{Office}
use Rattle.cpi_office.specs.Calls.{is_failure_of, Lasts}
use Rattle.cpi_office.specs.Runs.{replies, after}
use Rattle.cpi_store.specs.Sound.{IsSound}
use Rattle.cpi_office.specs.declared.request.Ask.{Ask}
use Rattle.cpi_office.specs.declared.reply.Reply.{Reply}

-- the request, unless it was answered 90
abbrev pub served_requests : Ask → Reply → List Ask
served_requests a r = if is_failure_of r then [] else a ∷ []

abbrev pub served_replies : Reply → List Reply
served_replies r = if is_failure_of r then [] else r ∷ []

-- the requests of a run that weren't answered 90, and their replies
abbrev pub all_served : List Ask → List Reply → List Ask
all_served (a ∷ asks) (r ∷ rs) = served_requests a r ++ all_served asks rs
all_served [] rs = []
all_served (a ∷ asks) [] = []

abbrev pub all_told : List Reply → List Reply
all_told [] = []
all_told (r ∷ rs) = served_replies r ++ all_told rs

-- The office goes from o to u by these requests, and each gets the reply in its place, apart from those that were
-- answered 90.
pub record IsRun (o : Office) (asks : List Ask) (rs : List Reply) (u : Office) : Type 0 where
  pub answers : replies (all_served asks rs) o ≡ all_told rs
  pub office : u ≡ after (all_served asks rs) o

-- no reply is 90
abbrev pub NoneFails : List Reply → Type 0
NoneFails rs = AllByRecursion (λ r. IsFalse (is_failure_of r)) rs

-- The requests were carried out over a book that held a sound office. If none was answered 90, a crash leaves the
-- office after the last request that changed it.
pub record RunOverBook (old new : State Office) (asks : List Ask) (rs : List Reply) : Type 0 where
  pub was_clean : new.is_clean → old.is_clean
  pub run : new.is_clean → IsSound old.held → IsRun old.held asks rs new.held
  pub lasts : new.is_clean → IsSound old.held → NoneFails rs → Lasts old new
