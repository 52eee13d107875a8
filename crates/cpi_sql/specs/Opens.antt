-- The state that an open of a database as an office leaves.
use Rattle.std.specs.Prelude.{◌≡◌, false}
use Rattle.sqlite.specs.Held.{Held, state}
use Rattle.sqlite.specs.State.{Survives}
use Rattle.sqlite_trees.specs.declared.store.Store.{Ghosts}
use Rattle.cpi_store.specs.declared.open_fault.OpenFault.{OpenFault}
use Rattle.cpi_store.specs.declared.open_fault.OpenFault.TheVariants.{UnknownSchema}
use Rattle.cpi_sql_rows.specs.Finding.{AreWhole, HavePlanYears, IsOpened, IsSettled, MayBeMade}
use Rattle.cpi_sql_rows.specs.Numbered.{ShowsOther}
use Rattle.cpi_sql_rows.specs.Shelf.{IsCleanBook, IsKept, Shelf, StaysOpen}

-- a book over the office that the connection showed, or that was made in it
pub record IsOpenedOffice {S : Type 0} (store : Ghosts S) (was : Held S) (b : Shelf S) : Type 0 where
  pub opened : IsCleanBook (state store b.held) → IsOpened (state store was) (state store b.held)
  pub stays : StaysOpen (state store was) (state store b.held)
  pub settled : IsCleanBook (state store b.held) → IsSettled (state store b.held)
  pub crash : Survives (state store was) (state store b.held) (MayBeMade (state store was))
  pub whole : IsCleanBook (state store b.held) → AreWhole (state store b.held).now.trees
  pub years : IsCleanBook (state store b.held) → HavePlanYears (state store b.held).now.trees
  pub count : b.failures ≡ 0
  pub unread : b.is_read ≡ false
  pub no_headers : b.has_headers ≡ false

-- no office: the connection holds what it held
pub record IsUnopened {S : Type 0} (store : Ghosts S) (was : Held S) (fault : OpenFault) (now : Held S) : Type 0 where
  pub kept : IsCleanBook (state store now) → IsKept (state store was) (state store now)
  pub settled_fault : IsCleanBook (state store now) → IsSettled (state store now)
  pub crash_fault : Survives (state store was) (state store now) (MayBeMade (state store was))
  pub unknown : IsCleanBook (state store now) → fault ≡ UnknownSchema → ShowsOther store was
