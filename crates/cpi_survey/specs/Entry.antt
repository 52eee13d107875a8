-- Entries that collectors send.
use Rattle.std.specs.Prelude.{ℕ, Bool}
use Rattle.cpi_survey.specs.declared.mark.Mark.{Mark}

pub record EntryRow : Type 0 where
  pub slot : ℕ
  pub month : ℕ
  pub mark : Mark
  pub confirm : Bool
