-- The effect of a write, whichever book it is, and how the state of its groups goes with that of its office.
use Rattle.std.specs.Prelude.{◌≡◌, ◌⊎◌, ◌<◌, ◌≤◌, Result, OnOk, OnErr, ⊤}
use Rattle.std.specs.Borrow.{follows_so, MutBor, Fml, RattleType}
use mathlib.Core.Option.{none}
use Rattle.cpi_release.specs.State.{State, StaysClean}
use Rattle.cpi_store.specs.Office.{Office}

module _ (old new : State Office) where
  -- A call that changes the office, or fails and leaves it as it was. A crash leaves what it could leave before, or the
  -- office after the call; and once the call has answered, that alone.
  pub record Writes {T F : Type 0} (result : Result T F) (after : Office) : Type 0 where
    pub was_kept : new.is_kept → old.is_kept
    pub was_clean : new.is_clean → old.is_clean
    pub stays : OnOk result (StaysClean old new)
    pub done : new.is_clean → OnOk result (new.held ≡ after)
    pub kept : new.is_clean → OnErr result (new.held ≡ old.held)
    pub count : old.failures ≤ new.failures
    pub fault : OnErr result (old.failures < new.failures)
    pub crash : old.is_clean → new.is_kept → (o : Office) → new.may_leave o → old.may_leave o ⊎ (o ≡ after)
    pub answered : new.is_clean → OnOk result ((o : Office) → new.may_leave o → o ≡ after)

-- a book's groups fail as often as its office; they are kept if it is, and clean if and only if it is
pub record IsOffice {H : Type 0} (groups : State H) (office : State Office) : Type 0 where
  pub failures : groups.failures ≡ office.failures
  pub kept : office.is_kept → groups.is_kept
  pub clean : office.is_clean → groups.is_clean
  pub is_clean : groups.is_clean → office.is_clean

-- the fact holds of the book when what it lent is given back
abbrev pub EndsAs : (R : RattleType) → MutBor R.Denot → (R.Denot → Type 0) → Fml
EndsAs R book P = follows_so R R book.ghost_name none (λ _ _. ⊤) P
