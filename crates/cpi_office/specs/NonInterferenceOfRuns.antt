-- Non-interference of the program: the same of the replies that `Office::run` gives over a book.
use Rattle.std.specs.Prelude.{◌≡◌, ℕ, List, [], ◌∷◌, ◌++◌, length, if◌then◌else◌}
use Rattle.cpi_release.specs.State.{State}
use Rattle.cpi_store.specs.Office.{Office}
use Rattle.cpi_store.specs.Sound.{IsSound}
use Rattle.cpi_office.specs.Served.{all_served, all_told, NoneFails, RunOverBook}
use Rattle.cpi_office.specs.IsolationOfRequests.{replies_to_key}
use Rattle.cpi_office.specs.NonInterference.{has_this_key, requests_without, NonePassesOn}
use Rattle.cpi_office.specs.Runs.{request_verdict, reply_to}
use Rattle.cpi_office.specs.declared.request.Ask.{Ask}
use Rattle.cpi_office.specs.declared.reply.Reply.{Reply}

-- the replies of the office to the requests that come with the key, in order
abbrev pub collector_replies : ℕ → List Ask → Office → List Reply
collector_replies key asks o = replies_to_key reply_to request_verdict key asks o

-- the replies to the requests that come with the key
abbrev pub replies_to : ℕ → List Ask → List Reply → List Reply
replies_to key [] rs = []
replies_to key (a ∷ asks) [] = []
replies_to key (a ∷ asks) (r ∷ rs) =
    (if has_this_key key a.caller then r ∷ [] else []) ++ replies_to key asks rs

-- Non-interference of a run: if neither a freeze nor a hand-over is among the requests, each collector gets the replies
-- that a run without the requests of all other collectors would give. Requests that were answered 90 don't count.
abbrev pub IsNonInterfering : Office → List Ask → List Reply → Type 0
IsNonInterfering o asks rs =
    NonePassesOn asks → (key : ℕ) →
    replies_to key (all_served asks rs) (all_told rs)
    ≡ collector_replies key (requests_without key (all_served asks rs)) o

-- a run from a sound office, with a reply to each request and none of them 90
pub record IsWholeRun (old new : State Office) (asks : List Ask) (rs : List Reply) : Type 0 where
  pub ran : RunOverBook old new asks rs
  pub clean : new.is_clean
  pub sound : IsSound old.held
  pub each : length rs ≡ length asks
  pub served : NoneFails rs

-- Non-interference of two runs over books that hold the same lists: if neither a freeze nor a hand-over is among the
-- requests, and these differ only in those of other collectors, the replies to the collector are the same.
abbrev pub RunsTellAlike : {B C : Type 0} → (B → State Office) → (C → State Office) → Type 0
RunsTellAlike {B} {C} state state' =
    (key : ℕ) (asks others : List Ask) (rs ss : List Reply) (old new : B) (old' new' : C) →
    IsWholeRun (state old) (state new) asks rs → IsWholeRun (state' old') (state' new') others ss →
    (state old).held ≡ (state' old').held →
    NonePassesOn asks → NonePassesOn others → requests_without key asks ≡ requests_without key others →
    replies_to key asks rs ≡ replies_to key others ss
