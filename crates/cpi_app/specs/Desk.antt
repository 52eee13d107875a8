-- The desk that the arguments name, and the error if they name none.
use Rattle.std.specs.Prelude.{◌≡◌, ◌⊎◌, ℕ, List, Some, IsNone, IsSome, take}
use Rattle.std.specs.Str.{IsTrimAscii}
use Rattle.jiff.specs.Placed.{IsPosixZone}
use Rattle.jiff.specs.Words.{read_whole}
use Rattle.cpi_codes.specs.Key.{key_of}
use Rattle.cpi_wire.specs.declared.fault.WireFault.TheVariants as wire
use Rattle.cpi_app.specs.declared.desk.Desk.{Desk}
use Rattle.cpi_app.specs.declared.desk.TheConstants.{MOST_KEY_BYTES}
use Rattle.cpi_app.specs.declared.fault.RunFault.{RunFault}
use Rattle.cpi_app.specs.declared.fault.RunFault.TheVariants.{BadZone, BadKey, Wire}

-- the desk's clock goes by the rule that the zone's text is, and its key is the one that the other text spells
pub record IsDeskOf (zone key : List ℕ) (desk : Desk) : Type 0 where
  pub clock : IsPosixZone zone desk.zone
  pub registration : key_of key ≡ Some desk.key

-- the zone's text is a rule, and the other text is no key
abbrev pub HasNoKey : List ℕ → List ℕ → Type 0
HasNoKey zone key = IsSome (read_whole zone) × IsNone (key_of key)

-- the text of the key in a file that holds these bytes: the first 1,024 of them without white space at the ends
abbrev pub IsKeyText : List ℕ → List ℕ → Type 0
IsKeyText held text = IsTrimAscii (take MOST_KEY_BYTES held) text

-- why a key can't be read: its file can't, or there is no memory for it
abbrev pub CanNotBeRead : RunFault → Type 0
CanNotBeRead why = (why ≡ BadKey) ⊎ (why ≡ Wire wire.NoMemory)

-- why the words name no desk
abbrev pub NamesNoDesk : List ℕ → List ℕ → RunFault → Type 0
NamesNoDesk zone key BadZone = IsNone (read_whole zone)
NamesNoDesk zone key BadKey = HasNoKey zone key
NamesNoDesk zone key _ = ⊥
