-- A row of a work list.
use Rattle.std.specs.Prelude.{ℕ, List, Option}
use Rattle.cpi_survey.specs.Quote.{QuoteRow}

pub record WorkPart : Type 0 where
  pub slot : ℕ
  pub outlet : ℕ
  pub outlet_name : List ℕ
  pub item : ℕ
  pub text : List ℕ
  pub unit : List ℕ
  pub last : Option ℕ
  pub quote : Option QuoteRow
