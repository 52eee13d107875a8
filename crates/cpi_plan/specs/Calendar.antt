-- The rows of the calendar.
use Rattle.std.specs.Prelude.{ℕ, ◌<◌, ◌≤◌, Bool, ◌&&◌, ◌==◌}

-- a month, and the moments at which it opens, closes and is published
pub record CalendarPart : Type 0 where
  pub month : ℕ
  pub opens : ℕ
  pub closes : ℕ
  pub publishes : ℕ

-- a month closes after it opens, and is published when it closes or later
abbrev pub AreInTurn : ℕ → ℕ → ℕ → Type 0
AreInTurn opens closes publishes = (opens < closes) × (closes ≤ publishes)

-- whether two rows have the same content
abbrev pub same_calendar : CalendarPart → CalendarPart → Bool
same_calendar a b = a.month == b.month && a.opens == b.opens && a.closes == b.closes && a.publishes == b.publishes
