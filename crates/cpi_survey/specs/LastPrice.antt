-- The last price of a slot before a month.
use Rattle.std.specs.Prelude.{ℕ, Bool, ◌&&◌, ◌==◌, nat_lt, List, [], ◌∷◌, Option, Some, None, if◌then◌else◌}
use Rattle.std.specs.Prelude.{option_and_then, is_some}
use Rattle.cpi_survey.specs.declared.assignment.Assignment.{Assignment}
use Rattle.cpi_survey.specs.Mark.{observed_price}
use Rattle.cpi_survey.specs.Quote.{QuoteRow}

-- a quote of the slot in an earlier month, in which a price was observed
abbrev pub is_earlier : ℕ → ℕ → QuoteRow → Bool
is_earlier slot month q = q.slot == slot && nat_lt q.month month && is_some (observed_price q.mark)

-- the quote of the later month, of one that was found and one more
abbrev pub later_of : Option QuoteRow → QuoteRow → Option QuoteRow
later_of None q = Some q
later_of (Some found) q = if nat_lt found.month q.month then Some q else Some found

-- the quote of the greatest month, of those that pass
abbrev pub latest_quote : (QuoteRow → Bool) → List QuoteRow → Option QuoteRow
latest_quote passes [] = None
latest_quote passes (q ∷ qs) = if passes q then later_of (latest_quote passes qs) q else latest_quote passes qs

abbrev pub price_in : Option QuoteRow → Option ℕ
price_in found = option_and_then (λ q. observed_price q.mark) found

-- the price that was observed last: that of the greatest earlier month among the quotes of the slot
abbrev pub observed_before : ℕ → ℕ → List QuoteRow → Option ℕ
observed_before slot month quotes = price_in (latest_quote (is_earlier slot month) quotes)

abbrev pub or_copied : Option ℕ → Option ℕ → Option ℕ
or_copied None copied = copied
or_copied (Some price) copied = Some price

-- the last price before a month: the one that was observed last in the slot, and without one the price that was copied
-- when the series was handed over
abbrev pub last_price : Assignment → ℕ → List QuoteRow → Option ℕ
last_price a month quotes = or_copied (observed_before a.slot month quotes) a.copied
