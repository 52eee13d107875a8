-- The state of a store at one moment, as contracts see it, and how a read leaves it.
use Rattle.std.specs.Prelude.{◌≡◌, ℕ, ◌<◌, ◌≤◌, Result, IfOk, OnOk, OnErr}

pub record State (H : Type 0) : Type 1 where
  pub held : H  -- its content
  pub failures : ℕ  -- how often a call has failed
  pub is_kept : Type 0  -- that its store has kept what was written there
  pub is_clean : Type 0  -- that, and no fault has shut it: then its content is known
  pub clean_is_kept : is_clean → is_kept
  pub may_leave : H → Type 0  -- the contents that a crash at this moment may leave

module _ {H : Type 0} (old new : State H) where
  -- the content stays as it was, in a crash too
  pub record Keeps : Type 0 where
    pub was_kept : new.is_kept → old.is_kept
    pub was_clean : new.is_clean → old.is_clean
    pub kept : new.is_clean → new.held ≡ old.held
    pub crash : old.is_clean → new.is_kept → (h : H) → new.may_leave h → old.may_leave h

  -- a store that has kept what was written is as clean as before
  abbrev pub StaysClean : Type 0
  StaysClean = old.is_clean → new.is_kept → new.is_clean

  -- a read shows a part of the content, or fails, and then the count rises
  pub record Reads {T F : Type 0} (result : Result T F) (Shown : T → Type 0) : Type 0 where
    pub keeps : Keeps
    pub stays : OnOk result StaysClean
    pub shown : new.is_clean → IfOk result Shown
    pub count : old.failures ≤ new.failures
    pub fault : OnErr result (old.failures < new.failures)
