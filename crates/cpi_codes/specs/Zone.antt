-- The moment that a civil text means by the clock of a place, or its fault.
use Rattle.std.specs.Prelude.{◌≡◌, ℕ, ◌≤◌, List, Result, Ok, Err, ℤ, pos, ◌-ℤ◌}
use Rattle.jiff.specs.Words.{ambiguous_at, civil_seconds, compatible_offset}
use Rattle.jiff_core.specs.declared.civil.datetime.DateTime.{DateTime}
use Rattle.jiff_tz.specs.declared.timezone.TimeZone.{TimeZone}
use Rattle.cpi_codes.specs.Civil.{IsCivilText}
use Rattle.cpi_codes.specs.declared.zone.MomentFault.{MomentFault}
use Rattle.cpi_codes.specs.declared.zone.MomentFault.TheVariants.{Text, Range}

-- the rule of a clock
abbrev pub ZoneRule : Type 0
ZoneRule = TimeZone

-- the second since 1970 UTC at which a clock by the rule shows the time. Where it shows the time twice, the
-- offset before the change gives the earlier second; where it never does, that offset moves the time forward
-- by the gap
abbrev pub second_in : ZoneRule → DateTime → ℤ
second_in zone time = civil_seconds time -ℤ (compatible_offset (ambiguous_at zone time)).seconds

-- the years that the office knows
abbrev pub IsOfficeYear : ℕ → Type 0
IsOfficeYear year = (2000 ≤ year) × (year ≤ 2199)

-- what a civil text gives in a zone
abbrev pub ZoneGives : ZoneRule → List ℕ → Result ℕ MomentFault → Type 0
ZoneGives zone text (Ok second) = (year : ℕ) × (time : DateTime) × IsCivilText text year time × IsOfficeYear year
    × (pos second ≡ second_in zone time)
ZoneGives zone text (Err Text) = (year : ℕ) (time : DateTime) → IsCivilText text year time → ⊥
ZoneGives zone text (Err Range) = (year : ℕ) × (time : DateTime) × IsCivilText text year time × ¬ IsOfficeYear year
ZoneGives zone text (Err _) = ⊥

-- a zone and a text have one answer
abbrev pub OneAnswer : Type 0
OneAnswer = (zone : ZoneRule) (text : List ℕ) (r s : Result ℕ MomentFault) → ZoneGives zone text r → ZoneGives
    zone text s →
    r ≡ s
