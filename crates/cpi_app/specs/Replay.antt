-- What the job of a replay does: its records are answered by an office that was empty.
use Rattle.std.specs.Prelude.{ℕ, List, Option, IsNone}
use Rattle.jiff.specs.Placed.{IsPosixZone}
use Rattle.jiff.specs.Words.{read_whole}
use Rattle.cpi_codes.specs.Zone.{ZoneRule}
use Rattle.cpi_store.specs.Office.{empty_office}
use Rattle.cpi_store.specs.Holders.{Kept, kept_state}
use Rattle.cpi_wire.specs.declared.fault.WireFault.{WireFault}
use Rattle.cpi_wire.specs.Records.{AnsweredInput, GaveUp}
use Rattle.cpi_app.specs.declared.fault.RunFault.{RunFault}
use Rattle.cpi_app.specs.declared.fault.RunFault.TheVariants.{BadZone, Wire}

-- a book in memory before its first record
abbrev pub empty_book : Kept
empty_book = record { office = empty_office; failures = 0 }

-- every record of the input was answered, from the empty office on, by the clock that the zone's text means
pub record Replayed (zone : List ℕ) (input was is : Option (List ℕ)) : Type 0 where
  pub rule : ZoneRule
  pub clock : IsPosixZone zone rule
  pub book : Kept
  pub answered : AnsweredInput rule kept_state input empty_book book was is

-- the first records of the input were, and no other was carried out
pub record GaveUpReplay (zone : List ℕ) (input was is : Option (List ℕ)) (fault : WireFault) : Type 0 where
  pub rule : ZoneRule
  pub clock : IsPosixZone zone rule
  pub book : Kept
  pub answered : GaveUp rule kept_state input empty_book book was is fault

-- why a replay ended early, and which records were answered until then: none if the zone's text is no rule
abbrev pub EndedEarly : List ℕ → Option (List ℕ) → Option (List ℕ) → Option (List ℕ) → RunFault → Type 0
EndedEarly zone input was is BadZone = IsNone (read_whole zone)
EndedEarly zone input was is (Wire fault) = GaveUpReplay zone input was is fault
EndedEarly zone input was is _ = ⊥
