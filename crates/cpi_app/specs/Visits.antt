-- Connections that came and were served, one after another.
use Rattle.std.specs.Prelude.{◌≡◌, ◌+◌, ◌<◌, ◌⊎◌, ⊤, ℕ, List, [], ◌∷◌, length}
use Rattle.std.specs.Prelude.{Option, Some, None, Result, Ok, Err, IsTrue, IsFalse}
use Rattle.std.specs.List.{AllByRecursion}
use Rattle.cpi_app.specs.declared.listener.NoClock.{NoClock}
use Rattle.cpi_app.specs.Connection.{Connection, Outcome, Serving, is_shaken}
use Rattle.cpi_app.specs.Listener.{Came, Missed, Timeless, Meeting}

-- a connection that came, and its outcome
pub record Visit : Type 0 where
  pub came : Connection
  pub outcome : Outcome

-- connections one after another, the last one first; `None` for one that couldn't be accepted
abbrev pub Visits : Type 0
Visits = List (Option Visit)

-- the last of them shook the book
abbrev pub LastShook : Visits → Type 0
LastShook [] = ⊥
LastShook (None ∷ earlier) = ⊥
LastShook (Some visit ∷ earlier) = IsTrue (is_shaken visit.outcome)

-- this one didn't
abbrev pub IsCalm : Option Visit → Type 0
IsCalm None = ⊤
IsCalm (Some visit) = IsFalse (is_shaken visit.outcome)

-- none but the last of them did
abbrev pub AreCalmBefore : Visits → Type 0
AreCalmBefore [] = ⊤
AreCalmBefore (visit ∷ earlier) = AllByRecursion IsCalm earlier

-- so many of the connections are left, and any only if the last one shook the book
abbrev pub AreLeft : ℕ → Visits → ℕ → Type 0
AreLeft limit visits left = (left + length visits ≡ limit) × ((left ≡ 0) ⊎ LastShook visits)

module _ {L S : Type 0} (meets : Meeting L) (serves : Serving S) where
  -- one wait: the connection that came was served, and nothing else was done
  abbrev pub IsTurn : L → L → S → S → Result (Option Outcome) NoClock → Type 0
  IsTurn was is before after (Ok (Some outcome)) = (came : Connection)
      × meets was (Came came) is × serves before came outcome after
  IsTurn was is before after (Ok None) = meets was Missed is × (after ≡ before)
  IsTurn was is before after (Err none) = meets was Timeless is × (after ≡ before)

  -- From the first listener to this one these connections came and no others. From the first service to this one each
  -- was served as it came, and nothing else was done.
  abbrev pub AreServed : L → S → Visits → L → S → Type 0
  AreServed first start [] is after = (is ≡ first) × (after ≡ start)
  AreServed first start (None ∷ earlier) is after = (was : L)
      × AreServed first start earlier was after
      × meets was Missed is
  AreServed first start (Some visit ∷ earlier) is after = (was : L) × (before : S)
      × AreServed first start earlier was before
      × meets was (Came visit.came) is
      × serves before visit.came visit.outcome after

  -- What serving up to so many connections came to: so many are left; or there was no moment for one that came before
  -- the limit, and none of those before it shook the book.
  abbrev pub ServesUpTo : ℕ → L → L → S → S → Result ℕ NoClock → Type 0
  ServesUpTo limit first is start after (Ok left) = (visits : Visits)
      × AreServed first start visits is after
      × AreCalmBefore visits × AreLeft limit visits left
  ServesUpTo limit first is start after (Err none) = (visits : Visits) × (was : L)
      × AreServed first start visits was after
      × meets was Timeless is
      × AllByRecursion IsCalm visits × (length visits < limit)
