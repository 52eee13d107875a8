-- A job in the office that files hold, whatever they are on, and the files that are given back.
use Rattle.std.specs.Prelude.{◌≡◌, ◌⊎◌, ℕ, List, Option, Result, IfErr, OnOk}
use Rattle.sqlite.specs.Closing.{IsCopied, files_left}
use Rattle.sqlite.specs.FileStore.{files as files_of, view}
use Rattle.sqlite.specs.Files.{file_state, over_files, FailsToClose, FailsToOpenFiles, Finds, IsCleanLeft, IsClosed}
use Rattle.sqlite.specs.Files.{IsOpened, LeavesFiles}
use Rattle.sqlite.specs.Held.{Held}
use Rattle.sqlite.specs.State.{HasCleanDisk}
use Rattle.sqlite.specs.WalReads.{AreClean}
use Rattle.sqlite.specs.declared.FileStore.{FileStore}
use Rattle.sqlite.specs.declared.error.Error.{Error}
use Rattle.sqlite.specs.declared.file.Leftover.{Leftover}
use Rattle.sqlite_disk.specs.declared.Disk.{Ghosts}
use Rattle.sqlite_disk.specs.declared.Files.{Files}
use Rattle.sqlite_trees.specs.View.{IsClean}
use Rattle.cpi_store.specs.declared.open_fault.OpenFault.{OpenFault}
use Rattle.cpi_store.specs.declared.open_fault.OpenFault.TheVariants.{Store}
use Rattle.cpi_sql.specs.Opens.{IsUnopened}
use Rattle.cpi_files.specs.Job.{Deed}
use Rattle.cpi_files.specs.Over.{IsDoneOver}

module _ {D : Type 0} (g : Ghosts D) where
  -- the connection shows what the files hold
  abbrev pub Shows : Files D → Held (FileStore D g) → Type 0
  Shows files was = HasCleanDisk (file_state was) → IsOpened was × Finds files was

  -- The connection was closed, and these are its files. A crash leaves nothing that it didn't leave before. If the
  -- close succeeded, the database file holds the last commit, with its log and without it. It failed only if the disk
  -- or the memory did.
  pub record IsClosedAs (held : Held (FileStore D g)) (closed : Result (Unit {0}) OpenFault) (now : Files D)
      : Type 0 where
    pub store : FileStore D g
    pub files : files_of store ≡ (now.log, now.db)
    pub quiet : IsClosed held store
    pub copied : OnOk closed (AreClean g now.log now.db → IsCopied held now)
    pub failed : IfErr closed (λ why. (why ≡ Store)
        × (IsClean (view store) → (error : Error) × FailsToClose held store error))

  -- the job was done in the office that the connection held, which was then closed
  abbrev pub IsDoneAndClosed : {Told : Type 0} → Held (FileStore D g) → Deed Told → Option (List ℕ)
      → Option (List ℕ) → Option (List ℕ) → Told → Result (Unit {0}) OpenFault → Files D → Type 0
  IsDoneAndClosed was does input before after told closed now = (last : Held (FileStore D g))
      × IsDoneOver over_files was does input before after last told × IsClosedAs last closed now

  -- the connection held no office, and was closed as it was
  abbrev pub IsRefusedAndClosed : Held (FileStore D g) → OpenFault → Files D → Type 0
  IsRefusedAndClosed was fault now = (held : Held (FileStore D g)) × IsUnopened over_files was fault held
      × ((closed : Result (Unit {0}) OpenFault) × IsClosedAs held closed now)

  -- The files hold no database, for this reason; no crash leaves anything else than before, unless they were empty.
  pub record IsNoDatabase (files now : Files D) : Type 0 where
    pub rest : Leftover D g
    pub left : (now.log, now.db) ≡ files_left rest
    pub error : Error
    pub cause : IsCleanLeft rest → FailsToOpenFiles files rest error
    pub unharmed : IsCleanLeft rest → LeavesFiles files rest

  -- the job was done in the office that the files hold, and these are the files then
  pub record IsDoneInFiles {Told : Type 0} (does : Deed Told) (input before after : Option (List ℕ)) (told : Told)
      (closed : Result (Unit {0}) OpenFault) (files now : Files D) : Type 0 where
    pub was : Held (FileStore D g)
    pub shown : Shows files was
    pub last : Held (FileStore D g)
    pub done : IsDoneOver over_files was does input before after last told
    pub left : IsClosedAs last closed now

  -- the files hold a database that is no office, and these are the files then
  pub record IsNoOffice (fault : OpenFault) (files now : Files D) : Type 0 where
    pub was : Held (FileStore D g)
    pub shown : Shows files was
    pub last : Held (FileStore D g)
    pub refused : IsUnopened over_files was fault last
    pub closed : Result (Unit {0}) OpenFault
    pub left : IsClosedAs last closed now

  -- why the job didn't begin: the files hold no database, or one that is no office
  abbrev pub IsRefusedInFiles : OpenFault → Files D → Files D → Type 0
  IsRefusedInFiles fault files now = ((fault ≡ Store) × IsNoDatabase files now) ⊎ IsNoOffice fault files now
