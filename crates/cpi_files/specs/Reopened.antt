-- Files that are opened again as they were closed.
use Rattle.std.specs.Prelude.{◌≡◌, Ok}
use Rattle.sqlite.specs.Files.{file_state, over_files}
use Rattle.sqlite.specs.Held.{Held}
use Rattle.sqlite.specs.declared.FileStore.{FileStore}
use Rattle.sqlite_disk.specs.declared.Disk.{Ghosts}
use Rattle.sqlite_disk.specs.declared.Files.{Files}
use Rattle.cpi_sql.specs.Opens.{IsOpenedOffice}
use Rattle.cpi_sql_rows.specs.Lists.{office_in}
use Rattle.cpi_sql_rows.specs.Shelf.{HasTables, IsCleanBook, Shelf}
use Rattle.cpi_files.specs.Files.{IsClosedAs, Shows}

-- A connection that held the tables of an office, and had no change that wasn't committed, was closed, and a book was
-- opened over the same files. If that book is clean, every table has the rows that the connection showed, and so the
-- office is the same.
abbrev pub ClosedIsOpened : {D : Type 0} → Ghosts D → Type 0
ClosedIsOpened {D} g = (last was : Held (FileStore D g)) (files : Files D) (again : Shelf (FileStore D g))
    → HasTables (file_state last) → (file_state last).now ≡ (file_state last).committed
    → IsClosedAs g last (Ok tt) files
    → Shows g files was → IsOpenedOffice over_files was again → IsCleanBook (file_state again.held)
    → ((file_state again.held).now.trees ≡ (file_state last).now.trees)
    × (office_in (file_state again.held).now.trees ≡ office_in (file_state last).now.trees)
