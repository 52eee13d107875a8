-- Connections that wait in memory.
use Rattle.std.specs.Prelude.{◌≡◌, ◌+◌, ◌≤◌, ◌⊎◌, length, slice_get, slice_set, Some, None, IsTrue, IsFalse}
use Rattle.cpi_app.specs.Connection.{Connection}
use Rattle.cpi_app.specs.Listener.{Arrival, Came, Missed, Timeless}
use Rattle.cpi_app.specs.declared.backlog.Backlog.{Backlog}
use Rattle.cpi_app.specs.declared.backlog.Queued.{Queued}

-- the next connection is this one, and is that one afterwards; the others are as they were
pub record TakesConnection (was : Backlog) (next now : Queued) (is : Backlog) : Type 0 where
  pub found : slice_get was.queued.items was.taken ≡ Some next
  pub stored : is.queued.items ≡ slice_set was.queued.items was.taken now
  pub taken : is.taken ≡ was.taken + 1

-- it came at this moment and sent these bytes, and the bytes that were written to it are kept
pub record ComesAs (next now : Queued) (c : Connection) : Type 0 where
  pub is_open : IsTrue next.is_open
  pub moment : next.moment ≡ Some c.moment
  pub sent : c.sent ≡ Some next.sent.items
  pub written : c.written ≡ Some next.written.items
  pub writing : c.writing ≡ Some now.written.items
  pub others : now ≡ record next { written = now.written }

-- The next connection came; or it couldn't be accepted, or there is none; or it couldn't be served, since there was no
-- moment.
abbrev pub MeetsNext : Backlog → Arrival → Backlog → Type 0
MeetsNext was (Came c) is = (next : Queued) × (now : Queued) × TakesConnection was next now is × ComesAs next now c
MeetsNext was Missed is = ((length was.queued.items ≤ was.taken) × (is ≡ was))
    ⊎ ((next : Queued) × TakesConnection was next next is × IsFalse next.is_open)
MeetsNext was Timeless is = (next : Queued) × TakesConnection was next next is × IsTrue next.is_open ×
    (next.moment ≡ None)
