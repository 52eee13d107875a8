-- A stored quote, the order of quotes, and their greatest receipt.
use Rattle.std.specs.Prelude.{ℕ, List, [], ◌∷◌, max}
use Rattle.std.specs.declared.cmp.Ordering.{Ordering}
use Rattle.std.specs.Ordering.{nat_cmp, ordering_then}
use Rattle.cpi_survey.specs.declared.mark.Mark.{Mark}

pub record QuoteRow : Type 0 where
  pub slot : ℕ
  pub month : ℕ
  pub mark : Mark
  pub receipt : ℕ

-- by slot, and then by month
abbrev pub quote_cmp : ℕ × ℕ → ℕ × ℕ → Ordering
quote_cmp a b = ordering_then (nat_cmp a.0 b.0) (nat_cmp a.1 b.1)

abbrev pub quote_key : QuoteRow → ℕ × ℕ
quote_key q = (q.slot, q.month)

-- the greatest receipt, or 0
abbrev pub greatest_receipt : List QuoteRow → ℕ
greatest_receipt [] = 0
greatest_receipt (q ∷ qs) = max q.receipt (greatest_receipt qs)
