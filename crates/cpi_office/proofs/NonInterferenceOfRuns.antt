-- Non-interference of runs over books.
use Rattle.std.proofs.Common.{◌≡◌, ℕ, List, [], ◌∷◌, ◌++◌, length, refl, sym, ap, ◌∙◌, arith, inl, inr, Bool, true}
use Rattle.std.proofs.Common.{false}
use Rattle.std.specs.Prelude.{IsFalse, if◌then◌else◌}
use Rattle.std.proofs.lemmas.Bool.{false≢true}
use Rattle.cpi_store.specs.Office.{Office}
use Rattle.cpi_office.specs.Answers.{answer}
use Rattle.cpi_office.specs.Runs.{replies, request_verdict, reply_to, next}
use Rattle.cpi_release.specs.State.{State}
use Rattle.cpi_office.specs.Calls.{ServesWhere, IsServed, is_failure_of}
use Rattle.cpi_store.specs.Sound.{IsSound}
use Rattle.cpi_office.specs.Served.{all_served, all_told, NoneFails, IsRun}
use Rattle.cpi_office.specs.NonInterference.{has_this_key, requests_without, NonePassesOn}
use Rattle.cpi_office.specs.NonInterferenceOfRuns.{collector_replies, replies_to, IsNonInterfering, IsWholeRun}
use Rattle.cpi_office.specs.NonInterferenceOfRuns.{RunsTellAlike}
use Rattle.cpi_office.specs.declared.request.Ask.{Ask}
use Rattle.cpi_office.specs.declared.reply.Reply.{Reply}
use Rattle.cpi_office.specs.ComputedTables.{TellsTable, computed_reply}
use Rattle.cpi_office.proofs.Fit.{judged_fit}
use Rattle.cpi_office.proofs.RebuiltProjections.{next_sound}
use Rattle.cpi_office.proofs.ComputedTables.{tables_are_told}
use Rattle.cpi_office.proofs.IsolationOfMessages.{replied_by_view}
use Rattle.cpi_office.proofs.IsolationOfRequests as requests

-- of the office under its own rules
others_do_not_matter : (key : ℕ) (asks : List Ask) (o : Office) → IsSound o → NonePassesOn asks →
    collector_replies key asks o ≡ collector_replies key (requests_without key asks) o
others_do_not_matter key asks o s none = requests.others_do_not_matter answer reply_to request_verdict judged_fit
    requests.judged_apart replied_by_view key asks o s.orderly none

-- the replies of a run, beside its requests
told_is : (key : ℕ) (asks : List Ask) (o : Office) → replies_to key asks (replies asks o) ≡ collector_replies key asks o
told_is key [] o = refl
told_is key (a ∷ asks) o =
    ap (λ rs. (if has_this_key key a.caller then reply_to a.now a.caller a.request o ∷ [] else []) ++ rs)
    (told_is key asks (next a o))

none_served : (asks : List Ask) (rs : List Reply) → NonePassesOn asks → NonePassesOn (all_served asks rs)
none_served [] rs none = tt
none_served (a ∷ asks) [] none = tt
none_served (a ∷ asks) (r ∷ rs) none = cases (is_failure_of r) refl (none_served asks rs none.1)
  where
    cases : (w : Bool) → is_failure_of r ≡ w → NonePassesOn (all_served asks rs) →
        NonePassesOn (all_served (a ∷ asks) (r ∷ rs))
    cases true e rest = rw e rest
    cases false e rest = rw e (none.0, rest)

pub run_is_non_interfering : (o u : Office) (asks : List Ask) (rs : List Reply) → IsSound o → IsRun o asks rs u →
    IsNonInterfering o asks rs
run_is_non_interfering o u asks rs s run none key =
    let front = all_served asks rs in
    ap (replies_to key front) (sym run.answers) ∙ told_is key front o
    ∙ others_do_not_matter key front o s (none_served asks rs none)

-- if no request fails, all are served
all_are_served : (asks : List Ask) (rs : List Reply) → length rs ≡ length asks → NoneFails rs →
    all_served asks rs ≡ asks
all_are_served [] rs same none = refl
all_are_served (a ∷ asks) [] same none = absurd (omega (arith, same))
all_are_served (a ∷ asks) (r ∷ rs) same none =
    rw none.0 (ap (λ xs. a ∷ xs) (all_are_served asks rs (omega (arith, same)) none.1))

all_are_told : (rs : List Reply) → NoneFails rs → all_told rs ≡ rs
all_are_told [] none = refl
all_are_told (r ∷ rs) none = rw none.0 (ap (λ xs. r ∷ xs) (all_are_told rs none.1))

module _ (old new : State Office) (asks : List Ask) (rs : List Reply) where
  whole_told : IsWholeRun old new asks rs → NonePassesOn asks → (key : ℕ) →
      replies_to key asks rs ≡ collector_replies key (requests_without key asks) old.held
  whole_told whole none key =
      let served = all_are_served asks rs whole.each whole.served in
      let told = all_are_told rs whole.served in
      ap (λ xs. replies_to key xs rs) (sym served)
      ∙ ap (replies_to key (all_served asks rs)) (sym told)
      ∙ run_is_non_interfering old.held new.held asks rs whole.sound (whole.ran.run whole.clean whole.sound) none key
      ∙ ap (λ xs. collector_replies key (requests_without key xs) old.held) served

pub runs_tell_alike : {B C : Type 0} (state : B → State Office) (state' : C → State Office) → RunsTellAlike state state'
runs_tell_alike state state' key asks others rs ss old new old' new' whole whole' start none none' same =
    whole_told (state old) (state new) asks rs whole none key
    ∙ ap (λ xs. collector_replies key xs (state old).held) same
    ∙ ap (collector_replies key (requests_without key others)) start
    ∙ sym (whole_told (state' old') (state' new') others ss whole' none' key)

-- a request that is served leaves a sound office sound
pub serves_sound : (old new : State Office) (reply wanted : Reply) (a : Ask) →
    ServesWhere old new (IsSound old.held) reply wanted (next a old.held) → new.is_clean → IsSound old.held →
    IsSound new.held
serves_sound old new reply wanted a serves clean s = cases (serves.served clean s)
  where
    cases : IsServed reply wanted old.held new.held (next a old.held) → IsSound new.held
    cases (inl done) = rw done.1 (next_sound a old.held s)
    cases (inr failed) = rw failed.1 s

-- a request for a table that is served is told the one that is computed
pub serves_table : (old new : State Office) (reply : Reply) (a : Ask) →
    ServesWhere old new (IsSound old.held) reply (reply_to a.now a.caller a.request old.held) (next a old.held) →
    new.is_clean →
    IsSound old.held → IsFalse (is_failure_of reply) → TellsTable a old.held reply
serves_table old new reply a serves clean s fine month form revision is known = cases (serves.served clean s)
  where
    cases : IsServed reply (reply_to a.now a.caller a.request old.held) old.held new.held (next a old.held)
        → reply ≡ computed_reply a.now month form revision old.held
    cases (inl done) = done.0 ∙ tables_are_told a old.held s month form revision is known
    cases (inr failed) = absurd (false≢true (sym fine ∙ ap is_failure_of failed.0))
