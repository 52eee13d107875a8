-- What is stored is what the verdict on a decision changes, and its receipt is above the greatest.
use Rattle.std.proofs.Common.{◌≡◌, ℕ, Option, Some, None, Result, Ok, Err, refl, sym, subst, arith}
use Rattle.std.specs.Prelude.{nat_lt, nat_le, IsSome}
use Rattle.cpi_rows.specs.Keyed.{row_by_number}
use Rattle.cpi_plan.specs.Calendar.{CalendarPart}
use Rattle.cpi_survey.specs.Entry.{EntryRow}
use Rattle.cpi_survey.specs.Quote.{QuoteRow, greatest_receipt}
use Rattle.cpi_survey.specs.Mark.{is_same_mark}
use Rattle.cpi_survey.specs.Assignment.{is_active}
use Rattle.cpi_survey.specs.Public.{PublicPart}
use Rattle.cpi_survey.specs.Own.{OwnPart, assignment_of}
use Rattle.cpi_survey.specs.Decision.{entry_decision, in_slot, over_quote, in_month, in_window, once_checked}
use Rattle.cpi_survey.specs.Decision.{with_receipt}
use Rattle.cpi_survey.specs.declared.assignment.Assignment.{Assignment}
use Rattle.cpi_survey.specs.declared.assignment.Assigned.{Assigned}
use Rattle.cpi_store.specs.declared.registration.Registration.{Registration}
use Rattle.cpi_survey.specs.declared.decision.Decision.{Decision}
use Rattle.cpi_survey.specs.declared.decision.Decision.TheVariants.{Again, Put}
use Rattle.cpi_survey.specs.declared.limits.TheConstants.{LAST_RECEIPT}
use Rattle.cpi_survey.specs.declared.refusal.Refusal.{Refusal as EntryRefusal}
use Rattle.cpi_store.specs.Office.{Office}
use Rattle.cpi_office.specs.Entries.{decision_verdict}
use Rattle.cpi_office.specs.Verdicts.{with_verdict}
use Rattle.cpi_office.specs.Receipts.{IsNewReceipt, office_with_quote}
use Rattle.cpi_office.proofs.Failures.{if_holds}

pub stored_is : (b : Registration) (entry : EntryRow) (d : Result Decision EntryRefusal) (o : Office) →
    office_with_quote b d o ≡ with_verdict (decision_verdict b entry d) o
stored_is b entry (Err f) o = refl
stored_is b entry (Ok (Again receipt)) o = refl
stored_is b entry (Ok (Put q)) o = refl

module _ (entry : EntryRow) (own : OwnPart) (has : IsSome
    (row_by_number (λ a. a.assignment.slot) entry.slot own.assignments))
  where
    abbrev greatest : ℕ
    greatest = greatest_receipt own.quotes

    abbrev New : Result Decision EntryRefusal → Type 0
    New d = IsNewReceipt d own

    receipt_new : New (with_receipt entry greatest)
    receipt_new = if_holds New (nat_le LAST_RECEIPT greatest) _ _ (λ e. tt) (λ e. (omega arith, has))

    checked_new : (check : Result (Unit {0}) EntryRefusal) → New (once_checked entry check greatest)
    checked_new (Ok _) = receipt_new
    checked_new (Err f) = tt

    window_new : (now : ℕ) (row : CalendarPart) (a : Assignment) (check : Result (Unit {0}) EntryRefusal) →
        New (in_window now entry row a check greatest)
    window_new now row a check =
        if_holds New (is_active entry.month a) _ _ (λ e.
        if_holds New (nat_lt now row.opens) _ _ (λ e. tt) (λ e.
        if_holds New (nat_le row.closes now) _ _ (λ e. tt) (λ e. checked_new check))) (λ e. tt)

    month_new : (now : ℕ) (row : Option CalendarPart) (a : Assignment) (check : Result (Unit {0}) EntryRefusal) →
        New (in_month now entry row a check greatest)
    month_new now None a check = tt
    month_new now (Some row) a check = window_new now row a check

    over_new : (now : ℕ) (row : Option CalendarPart) (a : Assignment) (q : Option QuoteRow)
        (check : Result (Unit {0}) EntryRefusal) → New (over_quote now entry row a q check greatest)
    over_new now row a None check = month_new now row a check
    over_new now row a (Some q) check = if_holds New (is_same_mark q.mark entry.mark) _ _ (λ same. tt)
        (λ other. month_new now row a check)

-- a new quote has a receipt above all of its collector's, and its slot is the collector's
pub decided_new : (now : ℕ) (entry : EntryRow) (public : PublicPart) (own : OwnPart) →
    IsNewReceipt (entry_decision now entry public own) own
decided_new now entry public own = cases (assignment_of entry.slot own) refl
  where
    cases : (a : Option Assigned) → assignment_of entry.slot own ≡ a → IsNewReceipt (in_slot now entry public a own) own
    cases None e = tt
    cases (Some a) e = over_new entry own (subst IsSome (sym e) refl) now _ a.assignment _ _
