-- Authorization: a caller is turned away if the key is unknown (refusal 11), or if the request isn't one that this kind
-- of caller may make (refusal 12).
use Rattle.std.specs.Prelude.{◌≡◌, ◌⊎◌, ◌<◌, Bool, true, false, IsTrue, IsFalse}
use Rattle.cpi_release.specs.State.{State}
use Rattle.cpi_store.specs.Office.{Office}
use Rattle.cpi_office.specs.declared.refusal.Refusal.{Refusal}
use Rattle.cpi_office.specs.declared.refusal.Refusal.TheVariants.{UnknownKey, NotForCaller, Unavailable}
use Rattle.cpi_office.specs.declared.caller.Caller.{Caller}
use Rattle.cpi_office.specs.declared.caller.Caller.TheVariants.{Public, Collector, Desk}
use Rattle.cpi_office.specs.declared.reply.Reply.{Reply}
use Rattle.cpi_office.specs.declared.reply.Reply.TheVariants.{Refused}

-- a refusal by which a caller is turned away
abbrev pub turns_away : Refusal → Bool
turns_away UnknownKey = true
turns_away NotForCaller = true
turns_away _ = false

abbrev pub is_turned_away : Reply → Bool
is_turned_away (Refused f) = turns_away f
is_turned_away _ = false

abbrev pub has_key : Caller → Bool
has_key Public = false
has_key (Collector key) = true
has_key Desk = false

-- the call is answered 90, because a look-up of the book failed, in a book whose look-ups can fail
pub record Fails (old new : State Office) (finds_always : Type 0) (reply : Reply) : Type 0 where
  pub unavailable : reply ≡ Refused Unavailable
  pub failed : old.failures < new.failures
  pub can_fail : finds_always → ⊥

module _ {B : Type 0} (state : B → State Office) (finds_always : Type 0) where
  -- A caller whom authorization refuses is turned away: the public and the desk without a look at the book, a caller
  -- with a key unless a look-up failed.
  pub record TurnsAway (old new : B) (caller : Caller) (reply wanted : Reply) : Type 0 where
    pub keyless : IsFalse (has_key caller) → IsTrue (is_turned_away wanted) → (reply ≡ wanted) × (new ≡ old)
    pub keyed :
        (state new).is_clean → IsTrue (is_turned_away wanted) →
        (reply ≡ wanted) ⊎ Fails (state old) (state new) finds_always reply
    -- a request that the caller may not make is answered 90 only if a look-up failed, whether the store is clean or not
    pub unavailable :
        wanted ≡ Refused NotForCaller → reply ≡ Refused Unavailable → Fails (state old) (state new) finds_always reply
