-- A table that the arguments ask for, or none.
use Rattle.std.proofs.Common.{◌≡◌, ℕ, List, Option, Result, Ok, Err, inl, inr}
use Rattle.std.specs.Prelude.{IfOk, IfErr}
use Rattle.sqlite_disk.specs.declared.Disk as disk
use Rattle.cpi_app.specs.Table.{AsksForNone}
use Rattle.cpi_app.specs.declared.fault.RunFault.{RunFault}
use Rattle.cpi_app.specs.declared.table.AskedTable.{AskedTable}
use Rattle.cpi_files.specs.Program.{AsksFor, IsTable, IsTableAt}
use Rattle.cpi_files.specs.declared.cabinet.Cabinet as cabinet
use Rattle.cpi_files.specs.declared.file.FileAt.{FileAt}
use Rattle.cpi_files.specs.declared.folder.Folder as folder
use Rattle.cpi_files.specs.declared.world.Ends.{Ends}

module _ {I O E F File D : Type 0} (ends left : Ends I O E F) (cabinet : cabinet.Ghosts (FileAt F) D)
    (medium : disk.Ghosts D) (g : folder.Ghosts F File D) (output : O → Option (List ℕ)) (path month : List ℕ)
    (revision : Option ℕ) (form : List ℕ) (at : ℕ) (outcome : Result ℕ RunFault) where
  pub table_of : (asked : Result AskedTable RunFault) → IfOk asked (AsksFor month revision form at)
      → IfErr asked (AsksForNone month at) → IfErr asked (λ fault. (outcome ≡ Err fault) × (left ≡ ends))
      → IfOk asked (λ it. IsTableAt ends left cabinet medium g output path it outcome)
      → IsTable ends left cabinet medium g output path month revision form at outcome
  table_of (Ok asked) asks none ended did = inr (asked, asks, did)
  table_of (Err fault) asks none ended did = inl (fault, ended.0, none, ended.1)
