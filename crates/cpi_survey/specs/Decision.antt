-- How an entry of a quote is decided.
use Rattle.std.specs.Prelude.{ℕ, ◌+◌, nat_lt, nat_le, not, ◌&&◌, Option, Some, None, is_none, Result, Ok, Err}
use Rattle.std.specs.Prelude.{if◌then◌else◌}
use Rattle.cpi_plan.specs.declared.items.Item.{Item}
use Rattle.cpi_plan.specs.Calendar.{CalendarPart}
use Rattle.cpi_survey.specs.declared.limits.TheConstants.{LAST_RECEIPT}
use Rattle.cpi_survey.specs.declared.assignment.Assignment.{Assignment}
use Rattle.cpi_survey.specs.declared.assignment.Assigned.{Assigned}
use Rattle.cpi_survey.specs.declared.decision.Decision.{Decision}
use Rattle.cpi_survey.specs.declared.decision.Decision.TheVariants.{Again, Put}
use Rattle.cpi_survey.specs.declared.refusal.Refusal.{Refusal}
use Rattle.cpi_survey.specs.declared.refusal.Refusal.TheVariants.{UnknownSlot, UnknownMonth, NotActive, NotOpen}
use Rattle.cpi_survey.specs.declared.refusal.Refusal.TheVariants.{Closed, NoLastPrice, OutOfTolerance, ReceiptsUsedUp}
use Rattle.cpi_survey.specs.declared.tolerance.Verdict.{Verdict}
use Rattle.cpi_survey.specs.declared.tolerance.Verdict.TheVariants.{Inside, Outside}
use Rattle.cpi_survey.specs.Assignment.{is_active}
use Rattle.cpi_survey.specs.Mark.{is_same_mark, is_replacement, checked_price}
use Rattle.cpi_survey.specs.Tolerance.{verdict}
use Rattle.cpi_survey.specs.LastPrice.{last_price}
use Rattle.cpi_survey.specs.Quote.{QuoteRow, greatest_receipt}
use Rattle.cpi_survey.specs.Entry.{EntryRow}
use Rattle.cpi_survey.specs.Public.{PublicPart, item_of, calendar_of}
use Rattle.cpi_survey.specs.Own.{OwnPart, assignment_of, quote_of}

-- a price outside the bounds is refused, with the last price and the bounds
abbrev pub by_verdict : ℕ → Verdict → Result (Unit {0}) Refusal
by_verdict last Inside = Ok tt
by_verdict last (Outside low high) = Err (OutOfTolerance last low high)

-- a price against the last one; if there is no price to check, or no such item, nothing is refused
abbrev pub against_last : Option Item → ℕ → Option ℕ → Result (Unit {0}) Refusal
against_last None last price = Ok tt
against_last (Some item) last None = Ok tt
against_last (Some item) last (Some price) = by_verdict last (verdict item last price)

-- a replacement needs a last price; a price that isn't confirmed is checked against the last one, if there is one
abbrev pub price_check : EntryRow → Option Item → Option ℕ → Result (Unit {0}) Refusal
price_check entry item None = if is_replacement entry.mark then Err NoLastPrice else Ok tt
price_check entry item (Some last) = if entry.confirm then Ok tt else against_last item last (checked_price entry.mark)

-- the next receipt
abbrev pub with_receipt : EntryRow → ℕ → Result Decision Refusal
with_receipt entry greatest =
    if nat_le LAST_RECEIPT greatest then Err ReceiptsUsedUp
    else Ok (Put (record { slot = entry.slot; month = entry.month; mark = entry.mark; receipt = greatest + 1 }))

-- a refusal by the check comes before one by the receipts
abbrev pub once_checked : EntryRow → Result (Unit {0}) Refusal → ℕ → Result Decision Refusal
once_checked entry (Ok _) greatest = with_receipt entry greatest
once_checked entry (Err refusal) greatest = Err refusal

-- the assignment's months, the window of the month, the check of the price, and the next receipt
abbrev pub in_window : ℕ → EntryRow → CalendarPart → Assignment → Result (Unit {0}) Refusal → ℕ →
    Result Decision Refusal
in_window now entry row a check greatest =
    if is_active entry.month a then
    if nat_lt now row.opens then Err NotOpen
    else if nat_le row.closes now then Err Closed
    else once_checked entry check greatest
    else Err NotActive

-- a month without a calendar row is unknown
abbrev pub in_month : ℕ → EntryRow → Option CalendarPart → Assignment → Result (Unit {0}) Refusal → ℕ →
    Result Decision Refusal
in_month now entry None a check greatest = Err UnknownMonth
in_month now entry (Some row) a check greatest = in_window now entry row a check greatest

-- an entry that equals the stored quote is answered with its receipt, at any moment
abbrev pub over_quote : ℕ → EntryRow → Option CalendarPart → Assignment → Option QuoteRow →
    Result (Unit {0}) Refusal → ℕ → Result Decision Refusal
over_quote now entry row a None check greatest = in_month now entry row a check greatest
over_quote now entry row a (Some quote) check greatest =
    if is_same_mark quote.mark entry.mark then Ok (Again quote.receipt) else in_month now entry row a check greatest

-- the check of the price of an entry, with the assignment's item and its last price before the month
abbrev pub check_of : EntryRow → PublicPart → OwnPart → Assignment → Result (Unit {0}) Refusal
check_of entry public own a = price_check entry (item_of a.item public) (last_price a entry.month own.quotes)

abbrev pub in_slot : ℕ → EntryRow → PublicPart → Option Assigned → OwnPart → Result Decision Refusal
in_slot now entry public None own = Err UnknownSlot
in_slot now entry public (Some a) own =
    over_quote now entry (calendar_of entry.month public) a.assignment (quote_of entry.slot entry.month own)
    (check_of entry public own a.assignment) (greatest_receipt own.quotes)

-- how an entry is decided: the stored receipt of an equal quote, a refusal, or a new quote
abbrev pub entry_decision : ℕ → EntryRow → PublicPart → OwnPart → Result Decision Refusal
entry_decision now entry public own = in_slot now entry public (assignment_of entry.slot own) own

-- ---- the order, as a list
-- refused if there is none
abbrev pub if_found : {X : Type 0} → Option X → Refusal → (X → Result Decision Refusal) → Result Decision Refusal
if_found None refusal next = Err refusal
if_found (Some x) refusal next = next x

-- the stored receipt, if the stored quote has the same mark with the same value
abbrev pub unless_again : Option QuoteRow → EntryRow → Result Decision Refusal → Result Decision Refusal
unless_again None entry next = next
unless_again (Some quote) entry next = if is_same_mark quote.mark entry.mark then Ok (Again quote.receipt) else next

-- refused as the bounds refuse it
abbrev pub unless_refused : Result (Unit {0}) Refusal → Result Decision Refusal → Result Decision Refusal
unless_refused (Ok _) next = next
unless_refused (Err refusal) next = Err refusal

-- refused if there is a last price, and the price lies outside the bounds round it and isn't confirmed
abbrev pub unless_outside : EntryRow → Option Item → Option ℕ → Result Decision Refusal → Result Decision Refusal
unless_outside entry item None next = next
unless_outside entry item (Some last) next =
    if entry.confirm then next else unless_refused (against_last item last (checked_price entry.mark)) next

-- the entry as it is stored, with the receipt after the collector's greatest
abbrev pub next_quote : EntryRow → OwnPart → QuoteRow
next_quote entry own = record {
  slot = entry.slot;
  month = entry.month;
  mark = entry.mark;
  receipt = greatest_receipt own.quotes + 1;
}

-- the first line that holds is the answer; if none does, the entry is stored with the next receipt
abbrev pub decision_in_order : ℕ → EntryRow → PublicPart → OwnPart → Result Decision Refusal
decision_in_order now entry public own =
    if_found (assignment_of entry.slot own) UnknownSlot (λ a.
    unless_again (quote_of entry.slot entry.month own) entry (
    if_found (calendar_of entry.month public) UnknownMonth (λ row.
    let last = last_price a.assignment entry.month own.quotes in
    if not (is_active entry.month a.assignment) then Err NotActive else
    if nat_lt now row.opens then Err NotOpen else
    if nat_le row.closes now then Err Closed else
    if is_replacement entry.mark && is_none last then Err NoLastPrice else
    unless_outside entry (item_of a.assignment.item public) last (
    if nat_le LAST_RECEIPT (greatest_receipt own.quotes) then Err ReceiptsUsedUp else
    Ok (Put (next_quote entry own))))))
