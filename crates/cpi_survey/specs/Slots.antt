-- Quotes that are kept slot by slot.
use Rattle.std.specs.Prelude.{◌≡◌, ℕ, Bool, ◌==◌, List}
use Rattle.std.specs.List.{AllByRecursion, flat_map}
use Rattle.std.specs.Ordering.{nat_cmp}
use Rattle.cpi_rows.specs.Keyed.{IsInOrder}
use Rattle.cpi_survey.specs.declared.slot_quotes.SlotQuotes.{SlotQuotes}
use Rattle.cpi_survey.specs.Quote.{QuoteRow, quote_cmp, quote_key}

-- the quotes of all slots, those of one slot after those of the other
abbrev pub quotes_of_slots : List SlotQuotes → List QuoteRow
quotes_of_slots slots = flat_map (λ s. s.quotes.items) slots

-- a quote of the slot
abbrev pub is_in_slot : ℕ → QuoteRow → Bool
is_in_slot slot q = q.slot == slot

-- one slot's quotes: each is of the slot, and they are in the order of months
pub record AreOfSlot (s : SlotQuotes) : Type 0 where
  pub own : AllByRecursion (λ q. q.slot ≡ s.slot) s.quotes.items
  pub order : IsInOrder quote_cmp quote_key s.quotes.items

-- slots in order, each with its own quotes
pub record AreBySlot (slots : List SlotQuotes) : Type 0 where
  pub order : IsInOrder nat_cmp (λ s. s.slot) slots
  pub own : AllByRecursion AreOfSlot slots
