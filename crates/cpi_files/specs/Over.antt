-- A job in the office that a connection holds.
use Rattle.std.specs.Prelude.{◌≡◌, ℕ, List, Option}
use Rattle.sqlite_trees.specs.declared.store.Store.{Ghosts}
use Rattle.sqlite.specs.Held.{Held, state}
use Rattle.cpi_sql_rows.specs.Shelf.{HasTables, IsCleanBook, Shelf, book_state}
use Rattle.cpi_sql.specs.Opens.{IsOpenedOffice}
use Rattle.cpi_files.specs.Job.{Deed}

-- A book was opened over what the connection showed, and the job was done in its office, which the connection holds
-- that is given back. If that is clean, it holds the tables of an office, and all that it shows is committed.
pub record IsDoneOver {S Told : Type 0} (g : Ghosts S) (was : Held S) (does : Deed Told)
    (input before after : Option (List ℕ)) (now : Held S) (told : Told) : Type 0 where
  pub book : Shelf S
  pub last : Shelf S
  pub found : IsOpenedOffice g was book
  pub done : does _ (book_state g) book last input before after told
  pub held : now ≡ last.held
  pub tables : IsCleanBook (state g now) → HasTables (state g now)
  pub settled : IsCleanBook (state g now) → (state g now).now ≡ (state g now).committed
