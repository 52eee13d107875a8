-- Printing a published table of the office in a cabinet's files.
use Rattle.std.specs.Prelude.{ℕ, List, Option, Result}
use Rattle.sqlite_disk.specs.declared.Disk as disk
use Rattle.cpi_release.specs.State.{State, Keeps}
use Rattle.cpi_store.specs.Office.{Office}
use Rattle.cpi_store.specs.declared.open_fault.OpenFault.{OpenFault}
use Rattle.cpi_app.specs.declared.table.AskedTable.{AskedTable}
use Rattle.cpi_app.specs.Table.{IsPrinted}
use Rattle.cpi_files.specs.Taken.{IsDoneFrom}
use Rattle.cpi_files.specs.declared.cabinet.Cabinet.{Ghosts}

-- the office of a book was printed as a table, or the line of a fault was; the office is unchanged
pub record Prints (asked : AskedTable) (Book : Type 0) (state : Book → State Office) (book now : Book)
    (input was is : Option (List ℕ)) (status : ℕ) : Type 0 where
  pub keeps : Keeps (state book) (state now)
  pub printed : (state now).is_clean → IsPrinted asked (state book).held was is status

-- the same in the office of the cabinet's files, whether or not the close succeeded
abbrev pub IsPrintedFrom : {C D : Type 0} → Ghosts C D → disk.Ghosts D → C → C → AskedTable
    → Option (List ℕ) → Option (List ℕ) → ℕ → Type 0
IsPrintedFrom cabinet g was is asked before after status = (input : Option (List ℕ))
    × (closed : Result (Unit {0}) OpenFault)
    × IsDoneFrom cabinet g was is (Prints asked) input before after status closed
