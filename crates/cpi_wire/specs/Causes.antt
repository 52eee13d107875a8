-- That a cause comes with a reply 90.
use Rattle.std.specs.Prelude.{◌≡◌, ◌≤◌, ◌<◌, Bool, true, false, Option, Some, None, IfSome, IsNone}
use Rattle.cpi_release.specs.State.{State}
use Rattle.cpi_store.specs.Office.{Office}
use Rattle.cpi_store.specs.Sound.{IsSound}
use Rattle.cpi_office.specs.declared.cause.Cause.{Cause}

-- the first of two causes
abbrev pub first_cause : Option Cause → Option Cause → Option Cause
first_cause (Some cause) other = Some cause
first_cause None other = other

-- Requests were answered, and `failed` says whether a reply to them is 90. Without a cause it is false, if the office was
-- sound and its store ends clean. If there is a cause, and it is the store, the count of failures has risen. Which reply
-- the cause is of isn't said, nor that there is a reply 90 if there is a cause.
pub record IsCaused (old new : State Office) (failed : Bool) (cause : Option Cause) : Type 0 where
  pub was_clean : new.is_clean → old.is_clean
  pub count : old.failures ≤ new.failures
  pub sound : new.is_clean → IsSound old.held → IsSound new.held
  pub store : IfSome cause (λ c. c.is_store ≡ true → old.failures < new.failures)
  pub none : new.is_clean → IsSound old.held → IsNone cause → failed ≡ false
