-- A run of the program, from its arguments to its exit status.
use Rattle.std.specs.Prelude.{◌≡◌, ◌⊎◌, ◌↔◌, ℕ, Bool, List, [], Option, Some, None, Result, Ok, Err}
use Rattle.std.specs.Prelude.{IfSome, IfOk, IfErr, OnOk, codes}
use Rattle.sqlite_disk.specs.declared.Disk as disk
use Rattle.cpi_codes.specs.Month.{month_of}
use Rattle.cpi_release.specs.declared.form.Form.TheVariants.{Csv}
use Rattle.cpi_wire.specs.declared.fault.WireFault.TheVariants as wire
use Rattle.cpi_app.specs.Command.{AreRefused, GivesJob}
use Rattle.cpi_app.specs.Desk.{IsKeyText}
use Rattle.cpi_app.specs.Fault.{IsReported, status_of_fault}
use Rattle.cpi_app.specs.Listener.{Meeting}
use Rattle.cpi_app.specs.Replay.{EndedEarly, Replayed}
use Rattle.cpi_app.specs.Table.{AsksForNone}
use Rattle.cpi_app.specs.declared.fault.RunFault.{RunFault}
use Rattle.cpi_app.specs.declared.fault.RunFault.TheVariants.{NoTable, Wire}
use Rattle.cpi_app.specs.declared.job.DeskKey.{DeskKey}
use Rattle.cpi_app.specs.declared.job.DeskKey.TheVariants as key
use Rattle.cpi_app.specs.declared.job.Job.{Job}
use Rattle.cpi_app.specs.declared.job.Job.TheVariants.{Replay, Serve, Table}
use Rattle.cpi_app.specs.declared.port.LocalPort.{LocalPort}
use Rattle.cpi_app.specs.declared.table.AskedTable.{AskedTable}
use Rattle.cpi_files.specs.Folder.{IsMissing, IsNotMissing}
use Rattle.cpi_files.specs.Replay.{EndsIn}
use Rattle.cpi_files.specs.Serve.{EndsServing}
use Rattle.cpi_files.specs.Table.{IsPrintedFrom}
use Rattle.cpi_files.specs.Taken.{IsRefusedAs}
use Rattle.cpi_files.specs.World.{AreUnread}
use Rattle.cpi_files.specs.declared.cabinet.Cabinet as cabinet
use Rattle.cpi_files.specs.declared.file.FileAt.{FileAt}
use Rattle.cpi_files.specs.declared.folder.Folder as folder
use Rattle.cpi_files.specs.declared.folder.Found.{Found}
use Rattle.cpi_files.specs.declared.folder.Found.TheVariants.{Missing, There, Unread}
use Rattle.cpi_files.specs.declared.world.Ends.{Ends}

-- the same with the status of a job that ended well
abbrev pub as_status : Result (Unit {0}) RunFault → Result ℕ RunFault
as_status (Ok done) = Ok 0
as_status (Err fault) = Err fault

-- the text of a key in a file that holds these bytes, or none if it can't be read as one
abbrev pub IsTextOf : Option (List ℕ) → List ℕ → Type 0
IsTextOf held text = (text ≡ []) ⊎ IfSome held (λ bytes. IsKeyText bytes text)

module _ {F File D : Type 0} (g : folder.Ghosts F File D) (held : File → Option (List ℕ)) (at : F) where
  -- the text of a key in a file that was opened
  abbrev pub IsKeyIn : Found File → List ℕ → Type 0
  IsKeyIn (There file) text = IsTextOf (held file) text
  IsKeyIn Missing text = text ≡ []
  IsKeyIn Unread text = text ≡ []

  -- the text of the desk's key
  abbrev pub IsKeyOf : DeskKey → List ℕ → Type 0
  IsKeyOf (key.Word word) text = text ≡ word.now
  IsKeyOf (key.File path) text = (found : Found File) × g.finds at path.now found × IsKeyIn found text

-- the table that the arguments ask for
abbrev pub AsksFor : List ℕ → Option ℕ → List ℕ → ℕ → AskedTable → Type 0
AsksFor month revision form at asked = (month_of month ≡ Ok asked.month) × (at ≡ asked.until)
    × (asked.revision ≡ revision) × (asked.form ≡ Csv ↔ form ≡ codes "csv")

module _ {I O E F : Type 0} (ends left : Ends I O E F) where
  -- neither the input was read nor the output written
  abbrev pub IsUnused : Type 0
  IsUnused = (left.input ≡ ends.input) × (left.output ≡ ends.output)

  -- a job was done with the file at a path of the folder as its cabinet
  abbrev pub IsAtFile : List ℕ → (FileAt F → FileAt F → Type 0) → Type 0
  IsAtFile path Did = (was : FileAt F) × (is : FileAt F) × (was.folder ≡ ends.folder) × (was.path.now ≡ path)
      × Did was is × (left.folder ≡ is.folder)

  -- The arguments were refused, and the reason was written to standard error; or they asked for help, which was written
  -- to standard output, or couldn't be.
  abbrev pub SaysWhy : Result ℕ RunFault → Type 0
  SaysWhy outcome = (left.input ≡ ends.input) × (left.folder ≡ ends.folder)
      × (((outcome ≡ Ok 2) × (left.output ≡ ends.output))
      ⊎ (((outcome ≡ Ok 0) × (left.errors ≡ ends.errors))
      ⊎ ((outcome ≡ Err (Wire wire.Write)) × (left.errors ≡ ends.errors))))

  -- the same for arguments that are refused; or there was no memory to read them
  abbrev pub IsRefused : Type 0 → Result ℕ RunFault → Type 0
  IsRefused Refused outcome = (Refused × SaysWhy outcome) ⊎ ((outcome ≡ Err (Wire wire.NoMemory)) × (left ≡ ends))

  module _ (input : I → Option (List ℕ)) (output : O → Option (List ℕ)) where
    -- the records of the input were answered in an office in memory
    abbrev pub IsReplayed : List ℕ → Result (Unit {0}) RunFault → Type 0
    IsReplayed zone done =
        OnOk done (Replayed zone (input ends.input) (output ends.output) (output left.output))
        × IfErr done (EndedEarly zone (input ends.input) (output ends.output) (output left.output))
        × (left.errors ≡ ends.errors) × (left.folder ≡ ends.folder)

  module _ {D : Type 0} (cabinet : cabinet.Ghosts (FileAt F) D) (medium : disk.Ghosts D) where
    -- they were answered in the office of the file
    abbrev pub IsReplayedAt : (I → Option (List ℕ)) → (O → Option (List ℕ)) → List ℕ → List ℕ
        → Result (Unit {0}) RunFault → Type 0
    IsReplayedAt input output zone path done = IsAtFile path (λ was is. EndsIn cabinet medium was is zone IsUnused
        (input ends.input) (output ends.output) (output left.output) done) × (left.errors ≡ ends.errors)

    -- this listener's peers were served from the office of the file, with the desk of the zone and of the key
    abbrev pub IsServedAt : {L : Type 0} → Meeting L → (L → Type 0) → List ℕ → List ℕ → ℕ → List ℕ
        → Result (Unit {0}) RunFault → Type 0
    IsServedAt meets Opens path key limit zone done =
        IsAtFile path (λ was is. EndsServing cabinet medium meets Opens zone key limit was is done)
        × IsUnused × (left.errors ≡ ends.errors)

    -- a table was printed from the office of the file; or nothing was printed, since the files hold no office
    abbrev pub IsPrintedAt : (O → Option (List ℕ)) → List ℕ → AskedTable → Result ℕ RunFault → Type 0
    IsPrintedAt output path asked outcome = IsAtFile path (λ was is.
        IfOk outcome (IsPrintedFrom cabinet medium was is asked (output ends.output) (output left.output))
        × IfErr outcome (IsRefusedAs cabinet medium was is)
        × IfErr outcome (λ fault. (left.output ≡ ends.output) × (left.errors ≡ ends.errors)))

    module _ {File : Type 0} (g : folder.Ghosts F File D) where
      -- the same, or there is no file
      abbrev pub IsTableAt : (O → Option (List ℕ)) → List ℕ → AskedTable → Result ℕ RunFault → Type 0
      IsTableAt output path asked outcome = ((outcome ≡ Err NoTable) × IsMissing g ends.folder path × (left ≡ ends))
          ⊎ (IsNotMissing g ends.folder path × IsPrintedAt output path asked outcome × (left.input ≡ ends.input))

      -- the same, or the arguments ask for no table
      abbrev pub IsTable : (O → Option (List ℕ)) → List ℕ → List ℕ → Option ℕ → List ℕ → ℕ → Result ℕ RunFault
          → Type 0
      IsTable output path month revision form at outcome =
          ((fault : RunFault) × (outcome ≡ Err fault) × AsksForNone month at fault × (left ≡ ends))
          ⊎ ((asked : AskedTable) × AsksFor month revision form at asked × IsTableAt output path asked outcome)

-- what is known about a run: about its folder and the files in it, its streams, and the ports at which it serves
pub record Known (W I O E F File D L : Type 0) : Type 1 where
  pub folder : folder.Ghosts F File D
  pub cabinet : cabinet.Ghosts (FileAt F) D
  pub medium : disk.Ghosts D
  pub file : File → Option (List ℕ)
  pub input : I → Option (List ℕ)
  pub output : O → Option (List ℕ)
  pub errors : E → Option (List ℕ)
  pub meets : Meeting L
  pub opens : LocalPort W → L → Type 0

module _ {W I O E F File D L : Type 0} (known : Known W I O E F File D L) (world : W) (ends left : Ends I O E F) where
  -- the office of the file was served at the port of the number; or there was no memory for the key
  abbrev pub IsServed : List ℕ → ℕ → DeskKey → ℕ → List ℕ → Result (Unit {0}) RunFault → Type 0
  IsServed path number key limit zone done = ((done ≡ Err (Wire wire.NoMemory)) × (left ≡ ends))
      ⊎ ((text : List ℕ) × (port : LocalPort W) × IsKeyOf known.folder known.file ends.folder key text
      × (port.rt.now ≡ world) × (port.number ≡ number)
      × IsServedAt ends left known.cabinet known.medium known.meets (known.opens port) path text limit zone done)

  -- A job was done. It changed only the ends that it uses.
  abbrev pub IsJobDone : Job → Result ℕ RunFault → Type 0
  IsJobDone (Replay zone None) outcome = (done : Result (Unit {0}) RunFault) × (outcome ≡ as_status done)
      × IsReplayed ends left known.input known.output zone.now done
  IsJobDone (Replay zone (Some path)) outcome = (done : Result (Unit {0}) RunFault) × (outcome ≡ as_status done)
      × IsReplayedAt ends left known.cabinet known.medium known.input known.output zone.now path.now done
  IsJobDone (Serve path port key limit zone) outcome = (done : Result (Unit {0}) RunFault)
      × (outcome ≡ as_status done) × IsServed path.now port key limit zone.now done
  IsJobDone (Table path month revision form at) outcome = IsTable ends left known.cabinet known.medium known.folder
      known.output path.now month.now revision form.now at outcome

  -- the arguments gave a job, and it was done
  abbrev pub IsGiven : (List (List ℕ) → Type 0) → Result ℕ RunFault → Type 0
  IsGiven HasWords outcome = (words : List (List ℕ)) × (job : Job)
      × HasWords words × GivesJob words job × IsJobDone job outcome

  -- what the program did with its arguments
  abbrev pub IsDone : (List (List ℕ) → Type 0) → (RunFault → Type 0) → Result ℕ RunFault → Type 0
  IsDone HasWords Lacks outcome = ((fault : RunFault) × (outcome ≡ Err fault) × AreUnread Lacks fault × (left ≡ ends))
      ⊎ (IsRefused ends left ((words : List (List ℕ)) × HasWords words × AreRefused words) outcome
      ⊎ IsGiven HasWords outcome)

  -- the run ended with this status; after an error its line was written last, unless the write failed
  abbrev pub IsEnded : Bool → Result ℕ RunFault → ℕ → Type 0
  IsEnded failed (Ok exit) status = (status ≡ exit) × (left ≡ ends)
  IsEnded failed (Err fault) status = (status ≡ status_of_fault fault) × IsUnused ends left
      × (left.folder ≡ ends.folder) × IsReported fault failed (known.errors ends.errors) (known.errors left.errors)

-- A run began with the ends that the world gave, did what its arguments asked for, and ended.
pub record IsRun {W I O E F File D L : Type 0} (known : Known W I O E F File D L) (world : W)
    (Begins : Ends I O E F → Type 0) (HasWords : List (List ℕ) → Type 0) (Lacks : RunFault → Type 0) (failed : Bool)
    (status : ℕ) : Type 0 where
  pub ends : Ends I O E F
  pub begun : Begins ends
  pub mid : Ends I O E F
  pub outcome : Result ℕ RunFault
  pub did : IsDone known world ends mid HasWords Lacks outcome
  pub left : Ends I O E F
  pub ended : IsEnded known world mid left failed outcome status
