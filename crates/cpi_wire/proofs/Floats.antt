-- No row of a list has a float.
use Rattle.std.proofs.Common.{◌≡◌, refl, ℕ, false, Option, Some, None}
use Rattle.serde_json.specs.Written.{has_float}
use Rattle.cpi_survey.specs.declared.mark.Mark.{Mark}
use Rattle.cpi_survey.specs.declared.mark.Mark.TheVariants.{Price, Missing, Comparable, Other}
use Rattle.cpi_survey.specs.Quote.{QuoteRow}
use Rattle.cpi_survey.specs.WorkPart.{WorkPart}
use Rattle.cpi_wire.specs.Line.{quote_data, value_of_mark, price_data, mark_data, receipt_data, work_row_data}

value_none : (m : Mark) → has_float (value_of_mark m) ≡ false
value_none (Price p) = refl
value_none (Missing r) = refl
value_none (Comparable p) = refl
value_none (Other p) = refl

pub quote_none : (q : QuoteRow) → has_float (quote_data q) ≡ false
quote_none q = rw (value_none q.mark) refl

price_none : (p : Option ℕ) → has_float (price_data p) ≡ false
price_none None = refl
price_none (Some p) = refl

mark_none : (q : Option QuoteRow) → has_float (mark_data q) ≡ false
mark_none None = refl
mark_none (Some q) = refl

receipt_none : (q : Option QuoteRow) → has_float (receipt_data q) ≡ false
receipt_none None = refl
receipt_none (Some q) = refl

pub work_none : (w : WorkPart) → has_float (work_row_data w) ≡ false
work_none w = rw (price_none w.last, mark_none w.quote, receipt_none w.quote) refl
