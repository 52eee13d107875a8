-- Non-interference between two offices, over books of any two kinds: if a caller has seen the same of both, both give
-- that caller the same reply. Freezes, hand-overs and embargoed tables are included.
use Rattle.std.specs.Prelude.{◌≡◌, ◌≢◌, ℕ, IsFalse, List}
use Rattle.cpi_release.specs.State.{State}
use Rattle.cpi_store.specs.Office.{Office}
use Rattle.cpi_office.specs.Projections.{view}
use Rattle.cpi_office.specs.Runs.{reply_to, after_one, trace}
use Rattle.cpi_office.specs.ProjectedChanges.{sights_of}
use Rattle.cpi_store.specs.Sound.{IsSound}
use Rattle.cpi_office.specs.Calls.{ServesWhere, is_failure_of}
use Rattle.cpi_office.specs.Served.{all_served, RunOverBook}
use Rattle.cpi_office.specs.declared.request.Ask.{Ask}
use Rattle.cpi_office.specs.declared.reply.Reply.{Reply}
use Rattle.cpi_office.specs.declared.caller.Caller.{Caller}
use Rattle.cpi_office.specs.declared.caller.Caller.TheVariants.{Desk}
use Rattle.cpi_office.specs.declared.request.Request.{Request}

-- a run from a sound office, and then one more request, which isn't answered 90
pub record AsksAfter (old mid new : State Office) (asks : List Ask) (rs : List Reply) (t : ℕ) (k : Caller) (r : Request)
    (reply : Reply) : Type 0 where
  pub sound : IsSound old.held
  pub ran : RunOverBook old mid asks rs
  pub serves : ServesWhere mid new (IsSound mid.held) reply (reply_to t k r mid.held) (after_one t k r mid.held)
  pub clean : new.is_clean
  pub told : IsFalse (is_failure_of reply)

-- Non-interference between two offices: if a caller starts with the same view of both and has seen the same accepted
-- rows since, the next request of that caller gets the same reply from both, whatever others sent.
abbrev pub RepliesAreAlike : {B C : Type 0} → (B → State Office) → (C → State Office) → Type 0
RepliesAreAlike {B} {C} state state' =
    (t : ℕ) (k : Caller) (r : Request) (asks others : List Ask) (rs ss : List Reply) (reply reply' : Reply)
    (old mid new : B) (old' mid' new' : C) → k ≢ Desk →
    AsksAfter (state old) (state mid) (state new) asks rs t k r reply →
    AsksAfter (state' old') (state' mid') (state' new') others ss t k r reply' →
    let o = (state old).held in let u = (state' old').held in
    view k t o ≡ view k t u →
    sights_of k t (trace (all_served asks rs) o) ≡ sights_of k t (trace (all_served others ss) u) →
    reply ≡ reply'
