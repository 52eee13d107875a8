-- Which second stands for a time that a clock shows twice or never.
use Rattle.std.specs.Prelude.{◌≡◌, ℕ, ℤ, List, pos, ◌+ℤ◌, ◌-ℤ◌, ◌<ℤ◌}
use Rattle.jiff.specs.Words.{ambiguous_at, civil_seconds}
use Rattle.jiff.specs.Placed.{IsPosixZone}
use Rattle.jiff_core.specs.declared.civil.datetime.DateTime.{DateTime}
use Rattle.jiff_tz.specs.declared.ambiguous.AmbiguousOffset.{AmbiguousOffset}
use Rattle.jiff_tz.specs.declared.ambiguous.AmbiguousOffset.TheVariants.{Unambiguous, Gap, Fold}
use Rattle.cpi_codes.specs.Zone.{ZoneRule, second_in}

-- of a time that comes once, its second; of one that comes twice, the earlier; one that never comes is moved
-- forward by the gap, and read on the clock after it. `civil` is the second that the clock shows
abbrev pub IsPicked : AmbiguousOffset → ℤ → ℤ → Type 0
IsPicked (Unambiguous offset) civil second = second ≡ civil -ℤ offset.seconds
IsPicked (Fold before after) civil second =
    (second ≡ civil -ℤ before.seconds) × (second <ℤ (civil -ℤ after.seconds))
IsPicked (Gap before after) civil second =
    let gap = after.seconds -ℤ before.seconds in
    (pos 0 <ℤ gap) × (second ≡ (civil +ℤ gap) -ℤ after.seconds)

-- so it is by each rule that a text writes
abbrev pub PicksAsStated : Type 0
PicksAsStated = (zone : ZoneRule) (text : List ℕ) (time : DateTime) → IsPosixZone text zone
    → IsPicked (ambiguous_at zone time) (civil_seconds time) (second_in zone time)
