-- The databases that a crash may leave of a book, and the office that an open finds in each.
use Rattle.std.specs.Prelude.{◌≡◌, ℕ}
use Rattle.sqlite.specs.Held.{Held, state}
use Rattle.sqlite.specs.State.{State, IsLive, Opens}
use Rattle.sqlite.specs.Tree.{Trees}
use Rattle.sqlite_trees.specs.declared.store.Store.{Ghosts}
use Rattle.cpi_store.specs.Office.{Office}
use Rattle.cpi_sql_rows.specs.Finding.{IsOpened}
use Rattle.cpi_sql_rows.specs.Lists.{office_in}
use Rattle.cpi_sql_rows.specs.Making.{IsOfficeDatabase}
use Rattle.cpi_sql_rows.specs.Shelf.{office_state}

-- a connection was just opened, and shows this database
pub record ShowsDatabase (db : Trees) (s : State) : Type 0 where
  pub opens : Opens s
  pub live : IsLive s
  pub shows : s.committed.trees ≡ db

-- Whatever database a crash leaves of a book, an open of it finds an office that the book may leave.
abbrev pub FindsWhatIsLeft : {S T : Type 0} → Ghosts S → Ghosts T → Type 0
FindsWhatIsLeft {S} {T} store again = (left : Held S) (failures : ℕ) (db : Trees) (was now : Held T)
    → (state store left).may_leave db → ShowsDatabase db (state again was)
    → IsOpened (state again was) (state again now)
    → (office_state (state store left) failures).may_leave (office_in (state again now).now.trees)

-- An open takes the database of an office as it is.
abbrev pub TakesAsItIs : {T : Type 0} → Ghosts T → Type 0
TakesAsItIs {T} again = (db : Trees) (was now : Held T) → IsOfficeDatabase db → ShowsDatabase db (state again was)
    → IsOpened (state again was) (state again now) → (state again now).now ≡ (state again was).now

-- If some office can't be left of a book, a crash leaves no database but that of an office.
abbrev pub LeavesOfficesOnly : {S : Type 0} → Ghosts S → Type 0
LeavesOfficesOnly {S} store = (left : Held S) (failures : ℕ) (other : Office)
    → ((office_state (state store left) failures).may_leave other → ⊥)
    → (db : Trees) → (state store left).may_leave db → (IsOfficeDatabase db → ⊥) → ⊥
