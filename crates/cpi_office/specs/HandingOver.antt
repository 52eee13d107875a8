-- The verdict on a hand-over that the desk sends.
use Rattle.std.specs.Prelude.{◌≡◌, ℕ, ◌+◌, ◌-◌, ◌&&◌, ◌==◌, nat_lt, nat_le, not, Bool, false, List, Option, Some, None}
use Rattle.std.specs.Prelude.{Result, Ok, Err, if◌then◌else◌}
use Rattle.cpi_rows.specs.Keyed.{row_by_number}
use Rattle.cpi_rows.specs.Held.{held_by}
use Rattle.cpi_codes.specs.declared.limits.TheConstants.{GREATEST_SLOT}
use Rattle.cpi_survey.specs.LastPrice.{last_price}
use Rattle.cpi_survey.specs.Quote.{QuoteRow}
use Rattle.cpi_survey.specs.Within.{has_quotes_since}
use Rattle.cpi_survey.specs.declared.assignment.Assignment.{Assignment}
use Rattle.cpi_release.specs.FrozenMonths.{frozen_months, last_frozen}
use Rattle.cpi_release.specs.declared.frozen_month.FrozenMonth.{FrozenMonth}
use Rattle.cpi_store.specs.declared.registration.Registration.{Registration}
use Rattle.cpi_store.specs.declared.given.Given.{Given}
use Rattle.cpi_store.specs.declared.series_move.SeriesMove.{SeriesMove}
use Rattle.cpi_store.specs.Office.{Office, HandsOver, given_until}
use Rattle.cpi_store.specs.Outlet.{with_name}
use Rattle.cpi_store.specs.Series.{same_series}
use Rattle.cpi_office.specs.Verdicts.{Verdict, Refuses, Stands, Makes}
use Rattle.cpi_office.specs.declared.refusal.Refusal.{Refusal}
use Rattle.cpi_office.specs.declared.refusal.Refusal.TheVariants.{UnknownSlot, NotActive, Taken, UnknownCollector}
use Rattle.cpi_office.specs.declared.refusal.Refusal.TheVariants.{BadRequest, MonthFrozen, QuotesStand}
use Rattle.cpi_office.specs.declared.request.HandOver.{HandOver}

-- the new assignment: as the former one is, from the month on, with the former one's last price
abbrev pub taken_on : HandOver → Assignment → List QuoteRow → Assignment
taken_on h former quotes = record former {
  slot = h.new_slot;
  first_month = h.month;
  copied = last_price former h.month quotes;
}

-- the change by a hand-over: the former slot ends with the month before, and the new one has this assignment
abbrev pub handover_of : HandOver → Registration → Registration → Given → Assignment → Office → SeriesMove
handover_of h b c former a o = record {
  former = b;
  ended = given_until (h.month - 1) former;
  taker = c;
  assigned = with_name o.outlets a;
}

-- ---- the rows that a hand-over needs

-- both collectors are registered, with these keys
pub record AreRegistered (former taker : Registration) (o : Office) : Type 0 where
  pub former_is : row_by_number (λ b. b.number) former.number o.collectors ≡ Some former
  pub taker_is : row_by_number (λ b. b.number) taker.number o.collectors ≡ Some taker

-- both collectors, and the assignment of the former one's slot
pub record AreThere (h : HandOver) (former taker : Registration) (given : Given) (o : Office) : Type 0 where
  pub registered : AreRegistered former taker o
  pub stands : row_by_number (λ g. g.assignment.slot) h.slot (held_by former.number o.assignments) ≡ Some given

-- the new collector has nothing in the new slot
abbrev pub IsSlotFree : HandOver → Registration → Office → Type 0
IsSlotFree h taker o = row_by_number (λ g. g.assignment.slot) h.new_slot (held_by taker.number o.assignments) ≡ None

-- ---- a new slot that isn't free

-- it took this series over in this month
abbrev pub stands_over : HandOver → Given → Given → Bool
stands_over h former new =
    same_series new.series former.series && new.assignment.first_month == h.month
    && former.assignment.last_month + 1 == h.month

abbrev pub over_standing : HandOver → Office → Registration → Registration → Given → Given → Verdict
over_standing h o b c former new =
    if stands_over h former new then Stands (HandsOver (handover_of h b c former new.assignment o)) else Refuses Taken

-- ---- a new slot that is free

-- after the former slot's first month, and not after its last
abbrev pub is_handed_within : HandOver → Assignment → Bool
is_handed_within h former = nat_lt former.first_month h.month && nat_le h.month former.last_month

abbrev pub is_not_after : ℕ → Option FrozenMonth → Bool
is_not_after month None = false
is_not_after month (Some last) = nat_le month last.month

-- the new assignment, by the assignment's months, the frozen months and the slot's quotes
abbrev pub judged_over :
    HandOver → Assignment → List FrozenMonth → List QuoteRow → Result Assignment Refusal
judged_over h former frozen quotes =
    if not (is_handed_within h former) then Err NotActive
    else if is_not_after h.month (last_frozen frozen) then Err MonthFrozen
    else if has_quotes_since h.slot h.month quotes then Err QuotesStand
    else Ok (taken_on h former quotes)

abbrev pub over_judged : HandOver → Office → Registration → Registration → Given → Result Assignment Refusal → Verdict
over_judged h o b c former (Err f) = Refuses f
over_judged h o b c former (Ok a) = Makes (HandsOver (handover_of h b c former a o))

abbrev pub over_free : HandOver → Office → Registration → Registration → Given → Verdict
over_free h o b c former =
    over_judged h o b c former
    (judged_over h former.assignment (frozen_months o.releases) (held_by b.number o.quotes))

-- ---- in order: the collectors, the former slot, the new slot

abbrev pub over_slots : HandOver → Office → Registration → Registration → Option Given → Option Given → Verdict
over_slots h o b c None new = Refuses UnknownSlot
over_slots h o b c (Some former) None = over_free h o b c former
over_slots h o b c (Some former) (Some new) = over_standing h o b c former new

abbrev pub over_collectors : HandOver → Office → Option Registration → Option Registration → Verdict
over_collectors h o None c = Refuses UnknownCollector
over_collectors h o (Some b) None = Refuses UnknownCollector
over_collectors h o (Some b) (Some c) =
    over_slots h o b c (row_by_number (λ g. g.assignment.slot) h.slot (held_by b.number o.assignments))
    (row_by_number (λ g. g.assignment.slot) h.new_slot (held_by c.number o.assignments))

-- the new collector's number and slot are within their limits, which their types keep
abbrev pub is_takeable : HandOver → Bool
is_takeable h = nat_le 1 h.to && nat_le 1 h.new_slot && nat_le h.new_slot GREATEST_SLOT

abbrev pub if_takeable : HandOver → Verdict → Verdict
if_takeable h next = if is_takeable h then next else Refuses BadRequest

-- the verdict on a hand-over
abbrev pub handed_over : HandOver → Office → Verdict
handed_over h o =
    if_takeable h
    (over_collectors h o (row_by_number (λ b. b.number) h.from o.collectors)
    (row_by_number (λ b. b.number) h.to o.collectors))
