-- A job in the office of the files that a cabinet gives.
use Rattle.std.specs.Prelude.{◌≡◌, ◌⊎◌, ℕ, List, Option, Result}
use Rattle.sqlite_disk.specs.declared.Disk as disk
use Rattle.sqlite_disk.specs.declared.Files.{Files}
use Rattle.cpi_store.specs.declared.open_fault.OpenFault.{OpenFault}
use Rattle.cpi_app.specs.declared.fault.RunFault.{RunFault}
use Rattle.cpi_app.specs.declared.fault.RunFault.TheVariants.{Database}
use Rattle.cpi_files.specs.Files.{IsDoneInFiles, IsRefusedInFiles}
use Rattle.cpi_files.specs.Job.{Deed}
use Rattle.cpi_files.specs.declared.cabinet.Cabinet.{Ghosts}

module _ {C D : Type 0} (cabinet : Ghosts C D) (g : disk.Ghosts D) (was is : C) where
  -- the cabinet gave its files, and got them back as these
  abbrev pub AreReturned : (Files D → Files D → Type 0) → Type 0
  AreReturned Became = (files now : Files D) × (away : C)
      × cabinet.gives was files away × Became files now × cabinet.keeps away now is

  -- the job was done in the office of these files
  abbrev pub IsDoneFrom : {Told : Type 0} → Deed Told → Option (List ℕ) → Option (List ℕ) → Option (List ℕ)
      → Told → Result (Unit {0}) OpenFault → Type 0
  IsDoneFrom does input before after told closed =
      AreReturned (IsDoneInFiles g does input before after told closed)

  -- why the job didn't begin: the cabinet gave no files, or these hold no office
  abbrev pub IsRefusedFrom : OpenFault → Type 0
  IsRefusedFrom fault = cabinet.refuses was fault is ⊎ AreReturned (IsRefusedInFiles g fault)

  -- the fault is the reason why the job didn't begin
  abbrev pub IsRefusedAs : RunFault → Type 0
  IsRefusedAs fault = (why : OpenFault) × (fault ≡ Database why) × IsRefusedFrom why
