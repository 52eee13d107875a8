-- The contract of a call of the office over a book: its reply, its change, and the offices that a crash may leave.
use Rattle.std.specs.Prelude.{◌≡◌, ◌⊎◌, ◌≤◌, ◌<◌, Bool, true, false, IsTrue, IsFalse, Result, Ok, Err, IfOk, IfErr}
use Rattle.cpi_release.specs.State.{State, StaysClean}
use Rattle.cpi_store.specs.Office.{Office}
use Rattle.cpi_office.specs.declared.cause.Cause.{Cause}
use Rattle.cpi_office.specs.declared.refusal.Refusal.{Refusal}
use Rattle.cpi_office.specs.declared.refusal.Refusal.TheVariants.{Unavailable}
use Rattle.cpi_office.specs.declared.reply.Reply.{Reply}
use Rattle.cpi_office.specs.declared.reply.Reply.TheVariants as say

abbrev pub is_refused : Reply → Bool
is_refused (say.Refused f) = true
is_refused _ = false

abbrev pub is_unavailable : Refusal → Bool
is_unavailable Unavailable = true
is_unavailable _ = false

-- the reply is refusal 90: the office is unavailable
abbrev pub is_failure_of : Reply → Bool
is_failure_of (say.Refused f) = is_unavailable f
is_failure_of _ = false

-- the reply to a caller: the answer, or refusal 90 if there is none
abbrev pub reply_of : Result Reply Cause → Reply
reply_of (Ok reply) = reply
reply_of (Err cause) = say.Refused Unavailable

-- the reply is the wanted one, and the change is made; or the reply is refusal 90, and nothing has changed
abbrev pub IsServed : Reply → Reply → Office → Office → Office → Type 0
IsServed reply wanted old new after =
    ((reply ≡ wanted) × (new ≡ after)) ⊎ ((reply ≡ say.Refused Unavailable) × (new ≡ old))

module _ (old new : State Office) where
  -- a crash leaves the office as it is now; or nothing was changed, and a crash leaves what it could leave before
  abbrev pub Lasts : Type 0
  Lasts = (o : Office) → new.may_leave o → (o ≡ new.held) ⊎ ((new.held ≡ old.held) × old.may_leave o)

  -- an answered call lasts: the store is as clean as before, and a crash leaves the change
  pub record Endures (reply : Reply) : Type 0 where
    pub was_kept : new.is_kept → old.is_kept
    pub stays : IsFalse (is_failure_of reply) → StaysClean old new
    pub answered : IsFalse (is_failure_of reply) → new.is_clean → Lasts

  -- a crash leaves the office as it could be left before the call, or the office after it
  abbrev pub Crashes : Office → Type 0
  Crashes after = old.is_clean → new.is_kept → (o : Office) → new.may_leave o → old.may_leave o ⊎ (o ≡ after)

  -- the call gives the wanted reply and makes the change, or it gives refusal 90 and changes nothing
  pub record Serves (reply wanted : Reply) (after : Office) : Type 0 where
    pub was_clean : new.is_clean → old.is_clean
    pub served : new.is_clean → IsServed reply wanted old.held new.held after
    pub count : old.failures ≤ new.failures
    pub endures : Endures reply
    pub crash : Crashes after

  -- The same for a call that gives an answer or a cause. An answer is the wanted one, and so not refusal 90. If the cause
  -- is the store, a call of the book failed.
  pub record Answers (result : Result Reply Cause) (wanted : Reply) (after : Office) : Type 0 where
    pub serves : Serves (reply_of result) wanted after
    pub answered : new.is_clean → IfOk result (λ reply. reply ≡ wanted)
    pub cause : IfErr result (λ cause. cause.is_store ≡ true → old.failures < new.failures)

  -- the same under a premise; a refusal changes nothing, whether the premise holds or not
  pub record ServesWhere (premise : Type 0) (reply wanted : Reply) (after : Office) : Type 0 where
    pub was_clean : new.is_clean → old.is_clean
    pub served : new.is_clean → premise → IsServed reply wanted old.held new.held after
    pub refused : new.is_clean → IsTrue (is_refused reply) → new.held ≡ old.held
    pub count : old.failures ≤ new.failures
    pub endures : Endures reply
    pub crash : premise → Crashes after

  -- the same for a call that gives an answer or a cause
  pub record AnswersWhere (premise : Type 0) (result : Result Reply Cause) (wanted : Reply) (after : Office) : Type 0
    where
      pub serves : ServesWhere premise (reply_of result) wanted after
      pub answered : new.is_clean → premise → IfOk result (λ reply. reply ≡ wanted)
      pub cause : IfErr result (λ cause. cause.is_store ≡ true → old.failures < new.failures)
