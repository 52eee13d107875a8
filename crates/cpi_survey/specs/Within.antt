-- The quotes of some months.
use Rattle.std.specs.Prelude.{ℕ, ◌+◌, ◌-◌, Bool, ◌&&◌, ◌==◌, nat_le, List, filter}
use Rattle.std.specs.List.{flat_map, list_any, range_with_len}
use Rattle.cpi_survey.specs.Quote.{QuoteRow}

-- the quotes of a month
abbrev pub is_of : ℕ → QuoteRow → Bool
is_of month q = q.month == month

-- a quote of the slot, of the month or of a later one
abbrev pub stands_since : ℕ → ℕ → QuoteRow → Bool
stands_since slot month q = q.slot == slot && nat_le month q.month

abbrev pub has_quotes_since : ℕ → ℕ → List QuoteRow → Bool
has_quotes_since slot month quotes = list_any (stands_since slot month) quotes

-- a month from the first to the last
abbrev pub is_within : ℕ → ℕ → QuoteRow → Bool
is_within first last q = nat_le first q.month && nat_le q.month last

-- the quotes of some months: those of the first month, then those of the next, and each month's by slot
abbrev pub quotes_within : ℕ → ℕ → List QuoteRow → List QuoteRow
quotes_within first last quotes =
    flat_map (λ month. filter (is_of month) quotes) (range_with_len first (last + 1 - first))
