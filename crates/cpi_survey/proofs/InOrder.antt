-- An entry is decided by the lines of one list.
use Rattle.std.proofs.Common.{◌≡◌, ℕ, Bool, true, false, not, ◌&&◌, cond, Option, Some, None, Result, Ok, Err, refl}
use Rattle.std.specs.Prelude.{is_none, nat_lt, nat_le}
use Rattle.cpi_plan.specs.declared.items.Item.{Item}
use Rattle.cpi_plan.specs.Calendar.{CalendarPart}
use Rattle.cpi_survey.specs.declared.assignment.Assigned.{Assigned}
use Rattle.cpi_survey.specs.declared.decision.Decision.{Decision}
use Rattle.cpi_survey.specs.declared.refusal.Refusal.{Refusal}
use Rattle.cpi_survey.specs.declared.refusal.Refusal.TheVariants.{NotActive, NotOpen, Closed, NoLastPrice, UnknownSlot}
use Rattle.cpi_survey.specs.declared.refusal.Refusal.TheVariants.{UnknownMonth}
use Rattle.cpi_survey.specs.Assignment.{is_active}
use Rattle.cpi_survey.specs.Mark.{is_replacement, checked_price}
use Rattle.cpi_survey.specs.LastPrice.{last_price}
use Rattle.cpi_survey.specs.Quote.{QuoteRow, greatest_receipt}
use Rattle.cpi_survey.specs.Entry.{EntryRow}
use Rattle.cpi_survey.specs.Public.{PublicPart, item_of, calendar_of}
use Rattle.cpi_survey.specs.Own.{OwnPart, assignment_of, quote_of}
use Rattle.cpi_survey.specs.Decision.{against_last, price_check, check_of, once_checked, with_receipt, over_quote}
use Rattle.cpi_survey.specs.Decision.{in_month}
use Rattle.cpi_survey.specs.Decision.{in_slot, entry_decision}
use Rattle.cpi_survey.specs.Decision.{if_found, unless_again, unless_refused, unless_outside, decision_in_order}

abbrev Answer : Type 0
Answer = Result Decision Refusal

-- the lines of the price
price_in_order : (entry : EntryRow) (item : Option Item) (last : Option ℕ) (greatest : ℕ) →
    once_checked entry (price_check entry item last) greatest
    ≡ cond (is_replacement entry.mark && is_none last) (Err NoLastPrice)
    (unless_outside entry item last (with_receipt entry greatest))
price_in_order entry item None greatest = cases (is_replacement entry.mark)
  where
    cases : (b : Bool) → once_checked entry (cond b (Err NoLastPrice) (Ok tt)) greatest ≡ cond (b && true)
        (Err NoLastPrice) (with_receipt entry greatest)
    cases true = refl
    cases false = refl
price_in_order entry item (Some last) greatest =
    cases (is_replacement entry.mark) entry.confirm (against_last item last (checked_price entry.mark))
  where
    cases : (b c : Bool) (r : Result (Unit {0}) Refusal) → once_checked entry (cond c (Ok tt) r) greatest
        ≡ cond (b && false) (Err NoLastPrice) (cond c (with_receipt entry greatest)
        (unless_refused r (with_receipt entry greatest)))
    cases true true r = refl
    cases false true r = refl
    cases true false (Ok _) = refl
    cases false false (Ok _) = refl
    cases true false (Err refusal) = refl
    cases false false (Err refusal) = refl

-- the lines of the window
window_in_order : (active early late : Bool) (x y : Answer) → x ≡ y →
    cond active (cond early (Err NotOpen) (cond late (Err Closed) x)) (Err NotActive)
    ≡ cond (not active) (Err NotActive) (cond early (Err NotOpen) (cond late (Err Closed) y))
window_in_order true early late x y e = rw e refl
window_in_order false early late x y e = refl

module _ (now : ℕ) (entry : EntryRow) (public : PublicPart) (own : OwnPart) where
  abbrev of_row : Assigned → CalendarPart → Answer
  of_row a row = let last = last_price a.assignment entry.month own.quotes in
      cond (not (is_active entry.month a.assignment)) (Err NotActive)
      (cond (nat_lt now row.opens) (Err NotOpen)
      (cond (nat_le row.closes now) (Err Closed)
      (cond (is_replacement entry.mark && is_none last) (Err NoLastPrice)
      (unless_outside entry (item_of a.assignment.item public) last
      (with_receipt entry (greatest_receipt own.quotes))))))

  month_in_order : (a : Assigned) (row : Option CalendarPart) →
      in_month now entry row a.assignment (check_of entry public own a.assignment)
      (greatest_receipt own.quotes) ≡ if_found row UnknownMonth (of_row a)
  month_in_order a None = refl
  month_in_order a (Some row) =
      window_in_order (is_active entry.month a.assignment) (nat_lt now row.opens) (nat_le row.closes now) _ _
      (price_in_order entry (item_of a.assignment.item public) (last_price a.assignment entry.month own.quotes)
      (greatest_receipt own.quotes))

  quote_in_order : (a : Assigned) (quote : Option QuoteRow) →
      over_quote now entry (calendar_of entry.month public) a.assignment quote
      (check_of entry public own a.assignment) (greatest_receipt own.quotes)
      ≡ unless_again quote entry (if_found (calendar_of entry.month public) UnknownMonth (of_row a))
  quote_in_order a None = month_in_order a (calendar_of entry.month public)
  quote_in_order a (Some quote) = rw (month_in_order a (calendar_of entry.month public)) refl

  slot_in_order : (a : Option Assigned) → in_slot now entry public a own
      ≡ if_found a UnknownSlot (λ a. unless_again (quote_of entry.slot entry.month own) entry
      (if_found (calendar_of entry.month public) UnknownMonth (of_row a)))
  slot_in_order None = refl
  slot_in_order (Some a) = quote_in_order a (quote_of entry.slot entry.month own)

pub decided_in_order : (now : ℕ) (entry : EntryRow) (public : PublicPart) (own : OwnPart) →
    entry_decision now entry public own ≡ decision_in_order now entry public own
decided_in_order now entry public own = slot_in_order now entry public own (assignment_of entry.slot own)
