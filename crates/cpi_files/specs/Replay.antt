-- What the job of a replay does in the office of a cabinet's files.
use Rattle.std.specs.Prelude.{◌≡◌, ◌⊎◌, ℕ, List, Option, IsNone, Result, Ok, Err, IsOk, IsErrOf, OnOk, IfErr}
use Rattle.jiff.specs.Placed.{IsPosixZone}
use Rattle.jiff.specs.Words.{read_whole}
use Rattle.sqlite_disk.specs.declared.Disk as disk
use Rattle.cpi_codes.specs.Zone.{ZoneRule}
use Rattle.cpi_release.specs.State.{State}
use Rattle.cpi_store.specs.Office.{Office}
use Rattle.cpi_store.specs.declared.open_fault.OpenFault.{OpenFault}
use Rattle.cpi_wire.specs.declared.fault.WireFault.{WireFault}
use Rattle.cpi_wire.specs.Records.{AnsweredInput, GaveUp}
use Rattle.cpi_app.specs.declared.fault.RunFault.{RunFault}
use Rattle.cpi_app.specs.declared.fault.RunFault.TheVariants.{BadZone, Database, Wire}
use Rattle.cpi_files.specs.Taken.{IsDoneFrom, IsRefusedFrom}
use Rattle.cpi_files.specs.declared.cabinet.Cabinet.{Ghosts}

-- the records of the input were answered in the office of a book by the clock, or after a fault the first of them
pub record Replays (rule : ZoneRule) (Book : Type 0) (state : Book → State Office) (book now : Book)
    (input was is : Option (List ℕ)) (outcome : Result (Unit {0}) WireFault) : Type 0 where
  pub answered : OnOk outcome (AnsweredInput rule state input book now was is)
  pub gave_up : IfErr outcome (GaveUp rule state input book now was is)

module _ {C D : Type 0} (cabinet : Ghosts C D) (g : disk.Ghosts D) (was is : C) where
  -- the same in the office of the cabinet's files, by the clock that the zone's text means
  pub record IsReplayedFrom (zone : List ℕ) (input before after : Option (List ℕ))
      (outcome : Result (Unit {0}) WireFault) (closed : Result (Unit {0}) OpenFault) : Type 0 where
    pub rule : ZoneRule
    pub clock : IsPosixZone zone rule
    pub done : IsDoneFrom cabinet g was is (Replays rule) input before after outcome closed

  -- there was such a replay; its input and the close had these results
  abbrev pub HasReplayed : List ℕ → Option (List ℕ) → Option (List ℕ) → Option (List ℕ)
      → (Result (Unit {0}) WireFault → Result (Unit {0}) OpenFault → Type 0) → Type 0
  HasReplayed zone input before after IsSo = (outcome : Result (Unit {0}) WireFault)
      × (closed : Result (Unit {0}) OpenFault) × IsSo outcome closed
      × IsReplayedFrom zone input before after outcome closed

  -- the records that were answered in the files: all; the first ones, if the input was given up; none, if the zone is
  -- no rule of a clock or no replay began; and all, if the files couldn't be closed afterwards
  abbrev pub EndsIn : {T : Type 0} → List ℕ → Type 0 → Option (List ℕ) → Option (List ℕ) → Option (List ℕ)
      → Result T RunFault → Type 0
  EndsIn zone Untouched input before after (Ok done) =
      HasReplayed zone input before after (λ outcome closed. IsOk outcome × IsOk closed)
  EndsIn zone Untouched input before after (Err BadZone) = IsNone (read_whole zone) × Untouched × (is ≡ was)
  EndsIn zone Untouched input before after (Err (Database fault)) =
      (Untouched × IsRefusedFrom cabinet g was is fault)
      ⊎ HasReplayed zone input before after (λ outcome closed. IsOk outcome × IsErrOf closed fault)
  EndsIn zone Untouched input before after (Err (Wire fault)) =
      HasReplayed zone input before after (λ outcome closed. IsErrOf outcome fault)
  EndsIn zone Untouched input before after (Err _) = ⊥
