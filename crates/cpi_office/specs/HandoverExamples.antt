-- Small runs with series that are handed over, computed: what both collectors see of it, what is refused, in order, and
-- the table of a month in which a series has another collector than in the month before.
use Rattle.std.specs.Prelude.{◌≡◌, ℕ, ◌+◌, List, [], ◌∷◌, ◌++◌, Some, None, codes}
use Rattle.std.specs.List.{flat_map, range_with_len}
use Rattle.cpi_survey.specs.WorkPart.{WorkPart}
use Rattle.cpi_release.specs.declared.form.Form.TheVariants.{Text}
use Rattle.cpi_store.specs.Office.{empty_office}
use Rattle.cpi_office.specs.Runs.{replies}
use Rattle.cpi_office.specs.Examples.{key_a, key_b, rice_code, shop_name, by_desk, by_key, by_public}
use Rattle.cpi_office.specs.Examples.{put_shop, register, new_assignment}
use Rattle.cpi_office.specs.Examples.{assign, put_month, quote, stored, waiting, Answers}
use Rattle.cpi_office.specs.FreezeExamples.{rice, freeze, opened, all_done, december, line, january_text}
use Rattle.cpi_office.specs.PlanExamples.{body, put_plan, flour}
use Rattle.cpi_office.specs.declared.request.Ask.{Ask}
use Rattle.cpi_office.specs.declared.request.NewAssignment.{NewAssignment}
use Rattle.cpi_office.specs.declared.request.Request.{Request}
use Rattle.cpi_office.specs.declared.request.Request.TheVariants as request
use Rattle.cpi_office.specs.declared.reply.Reply.{Reply}
use Rattle.cpi_office.specs.declared.reply.Reply.TheVariants.{Receipt, Done, Work, Quotes, Table, Refused}
use Rattle.cpi_office.specs.declared.refusal.Refusal.TheVariants as refusal

-- from a collector's slot to a collector's slot; month 314 is 2026-03
abbrev pub hand : ℕ → ℕ → ℕ → ℕ → ℕ → Request
hand from slot to new_slot month =
    request.HandOver (record { from = from; slot = slot; to = to; new_slot = new_slot; month = month })

-- collector 7 has slot 4 too, and collector 8 no slot; a window for 2026-03
abbrev pub two_hands : List Ask
two_hands =
    by_desk (assign 7 4 10 rice_code) ∷ by_desk (register 8 key_b) ∷ by_desk (put_month 314 1000 2000 3000) ∷ []

-- slot 1 of collector 7, and the slot to which the series went
abbrev pub first_slot : WorkPart
first_slot = record waiting { slot = 1 }

abbrev pub went_on : ℕ → WorkPart
went_on slot = record waiting { slot = slot; last = Some 490 }

-- The new slot begins with the former one's last price, by which prices are checked, and the former one ends: each has
-- its own months and quotes. What is handed over already is done.
abbrev pub HandedOver : Type 0
HandedOver = Answers
    (two_hands ++ by_key 1500 key_a (quote 4 312 490)
    ∷ by_desk (hand 7 4 8 1 314) ∷ by_desk (hand 7 4 8 1 314)
    ∷ by_key 1500 key_b (request.Work 314) ∷ by_key 1500 key_a (request.Work 314)
    ∷ by_key 1500 key_a (request.Quotes 311 323) ∷ by_key 1500 key_b (request.Quotes 311 323)
    ∷ by_key 1500 key_a (quote 4 314 500) ∷ by_key 1500 key_b (quote 1 312 500)
    ∷ by_key 1500 key_b (quote 1 314 342) ∷ by_key 1500 key_b (quote 1 314 343) ∷ by_desk (hand 7 4 8 1 314) ∷ [])
    (Done ∷ Done ∷ Done ∷ Receipt 1
    ∷ Done ∷ Done
    ∷ Work (went_on 1 ∷ []) ∷ Work (first_slot ∷ [])
    ∷ Quotes (stored 4 312 490 1 ∷ []) ∷ Quotes []
    ∷ Refused refusal.NotActive ∷ Refused refusal.NotActive
    ∷ Refused (refusal.OutOfTolerance 490 343 735) ∷ Receipt 1 ∷ Done ∷ [])

-- the last price is the one of the moment of the hand-over, whatever is corrected later
abbrev pub CopiedOnce : Type 0
CopiedOnce = Answers
    (two_hands ++ by_key 1500 key_a (quote 4 312 490) ∷ by_desk (hand 7 4 8 1 314)
    ∷ by_key 1500 key_a (quote 4 312 480) ∷ by_key 1500 key_b (request.Work 314) ∷ [])
    (Done ∷ Done ∷ Done ∷ Receipt 1 ∷ Done ∷ Receipt 2 ∷ Work (went_on 1 ∷ []) ∷ [])

-- a series goes to another slot of its collector, or from one collector on to the next, with the price that came with
-- it
abbrev pub HandedOn : Type 0
HandedOn = Answers
    (two_hands ++ by_desk (put_month 316 1000 2000 3000) ∷ by_key 1500 key_a (quote 4 312 490)
    ∷ by_desk (hand 7 4 7 5 314) ∷ by_key 1500 key_a (request.Work 314)
    ∷ by_desk (hand 7 5 8 1 316) ∷ by_key 1500 key_b (request.Work 316) ∷ by_key 1500 key_a (request.Work 316)
    ∷ by_desk (hand 7 4 7 5 314) ∷ by_desk (hand 7 5 8 1 316) ∷ by_desk (hand 7 4 8 1 316) ∷ [])
    (Done ∷ Done ∷ Done ∷ Done ∷ Receipt 1
    ∷ Done ∷ Work (first_slot ∷ went_on 5 ∷ [])
    ∷ Done ∷ Work (went_on 1 ∷ []) ∷ Work (first_slot ∷ [])
    ∷ Done ∷ Done ∷ Refused refusal.Taken ∷ [])

-- ---- refusals

-- Each where the next ones would be due too: the collectors, the former slot, the new slot, the former slot's months.
-- Only the desk hands over.
abbrev pub HandoverRefusals : Type 0
HandoverRefusals = Answers
    (two_hands ++ by_desk (hand 9 9 9 1 311) ∷ by_desk (hand 9 9 7 1 311) ∷ by_desk (hand 7 9 9 1 311)
    ∷ by_desk (hand 7 9 7 1 311) ∷ by_desk (hand 7 4 7 1 311) ∷ by_desk (hand 7 4 7 4 314)
    ∷ by_desk (hand 7 4 8 1 311) ∷ by_desk (hand 7 4 8 1 324)
    ∷ by_key 1500 key_a (hand 7 4 8 1 314) ∷ by_public 1500 (hand 7 4 8 1 314) ∷ [])
    (Done ∷ Done ∷ Done
    ∷ Refused refusal.UnknownCollector ∷ Refused refusal.UnknownCollector ∷ Refused refusal.UnknownCollector
    ∷ Refused refusal.UnknownSlot ∷ Refused refusal.Taken ∷ Refused refusal.Taken
    ∷ Refused refusal.NotActive ∷ Refused refusal.NotActive
    ∷ Refused refusal.NotForCaller ∷ Refused refusal.NotForCaller ∷ [])

-- a quote of the month or of a later one stands against it, and one before it doesn't
abbrev pub LaterQuotes : Type 0
LaterQuotes = Answers
    (two_hands ++ by_key 1500 key_a (quote 4 314 490)
    ∷ by_desk (hand 7 4 8 1 313) ∷ by_desk (hand 7 4 8 1 314) ∷ by_desk (hand 7 4 8 1 315) ∷ [])
    (Done ∷ Done ∷ Done ∷ Receipt 1
    ∷ Refused refusal.QuotesStand ∷ Refused refusal.QuotesStand ∷ Done ∷ [])

-- no month is handed over that was frozen, or that comes before the last frozen one, whatever quotes stand
abbrev pub CachedMonths : Type 0
CachedMonths = Answers
    (two_hands ++ by_desk (put_month 323 0 1000 1000) ∷ freeze 1000 323 [] ∷ by_key 1500 key_a (quote 4 314 490)
    ∷ by_desk (hand 7 4 8 1 314) ∷ by_desk (hand 7 4 8 1 323) ∷ by_desk (hand 7 4 8 1 324) ∷ [])
    (Done ∷ Done ∷ Done ∷ Done ∷ Done ∷ Receipt 1
    ∷ Refused refusal.MonthFrozen ∷ Refused refusal.MonthFrozen ∷ Refused refusal.NotActive ∷ [])

-- the slot from 2026-03 on, as the hand-over leaves it where there was no price
abbrev pub from_march : NewAssignment
from_march = record (new_assignment 1 10 rice_code) { first_month = 314 }

-- a slot that took its series over, and one that ended, aren't what an assignment of their own would make of them
abbrev pub NotAssigned : Type 0
NotAssigned = Answers
    (two_hands ++ by_desk (hand 7 4 8 1 314) ∷ by_desk (request.Assign 8 from_march)
    ∷ by_desk (assign 7 4 10 rice_code) ∷ by_desk (hand 7 4 8 1 313) ∷ [])
    (Done ∷ Done ∷ Done ∷ Done ∷ Refused refusal.Taken ∷ Refused refusal.Taken ∷ Refused refusal.Taken ∷ [])

-- ---- a table over a hand-over

-- A series that another collector has from January on is in January's sample as it was before: the table is the one
-- that there is without the hand-over.
abbrev pub StaysInSample : Type 0
StaysInSample =
    replies (opened ++ by_desk (register 8 key_b) ∷ december ++ freeze 1000 311 [] ∷ by_desk (hand 7 1 8 3 312)
    ∷ by_key 1100 key_a (quote 2 312 300) ∷ by_key 1100 key_a (quote 3 312 540) ∷ by_key 1100 key_a (quote 4 312 490)
    ∷ by_key 1100 key_b (quote 3 312 210) ∷ freeze 2000 312 [] ∷ by_public 3000 (request.Table 312 Text None) ∷ [])
    empty_office
    ≡ all_done ++ Done ∷ Receipt 1 ∷ Receipt 2 ∷ Receipt 3 ∷ Receipt 4 ∷ Done ∷ Done
    ∷ Receipt 5 ∷ Receipt 6 ∷ Receipt 7 ∷ Receipt 1 ∷ Done ∷ Table january_text ∷ []

-- a slot of collector 7 up to 2027-12
abbrev pub long_slot : ℕ → ℕ → Ask
long_slot slot item = by_desk (request.Assign 7 (record (new_assignment slot 10 item) { last_month = 335 }))

-- two items, an outlet, two collectors, two slots and two plans
abbrev pub for_two_years : List Ask
for_two_years =
    by_desk (request.PutItem rice) ∷ by_desk (request.PutItem flour) ∷ by_desk (put_shop 10 shop_name)
    ∷ by_desk (register 7 key_a) ∷ by_desk (register 8 key_b) ∷ long_slot 1 rice_code ∷ long_slot 4 flour.code
    ∷ put_plan 2026 body ∷ put_plan 2027 body ∷ []

-- a month whose quotes are those of one series of each collector
abbrev pub priced_by_two : ℕ → ℕ → List Ask
priced_by_two month price =
    by_desk (put_month month 0 1000 1000) ∷ by_key 100 key_b (quote 3 month price)
    ∷ by_key 100 key_a (quote 4 month 500)
    ∷ freeze 1000 month [] ∷ []

abbrev pub told_two : ℕ → List Reply
told_two receipt = Done ∷ Receipt receipt ∷ Receipt (receipt + 2) ∷ Done ∷ []

abbrev pub second_january : List ℕ
second_january =
    line (codes "CPI 2027-01")
    ++ line (codes "00          1000000      103.0        109.2     3.0     6.0 . All items")
    ++ line (codes "01          1000000      103.0        109.2     3.0     6.0 . Food and drink")
    ++ line (codes "01.1        1000000      103.0        109.2     3.0     6.0 . Food")
    ++ line (codes "01.1.1      1000000      103.0        109.2     3.0     6.0 . Cereals")
    ++ line (codes "01.1.1.1     600000      105.0        115.5     5.0    10.0 . Rice")
    ++ line (codes "01.1.1.1-01  600000      105.0        115.5     5.0    10.0 . Rice, packed")
    ++ line (codes "01.1.1.2     400000      100.0        100.0     0.0     0.0 . Flour")
    ++ line (codes "01.1.1.2-01  400000      100.0        100.0     0.0     0.0 . Flour, wheat")

-- The series of a hand-over in January stays in the samples of that year, and has its base for the next year from the
-- collector who took it over.
abbrev pub TwoYears : Type 0
TwoYears =
    replies (for_two_years
    ++ by_desk (put_month 311 0 1000 1000) ∷ by_key 100 key_a (quote 1 311 200) ∷ by_key 100 key_a (quote 4 311 500)
    ∷ freeze 1000 311 [] ∷ by_desk (hand 7 1 8 3 312)
    ∷ flat_map (λ month. priced_by_two month 210) (range_with_len 312 11)
    ++ priced_by_two 323 220 ++ priced_by_two 324 231 ++ by_public 1000 (request.Table 324 Text None) ∷ []) empty_office
    ≡ Done ∷ Done ∷ Done ∷ Done ∷ Done ∷ Done ∷ Done ∷ Done ∷ Done
    ∷ Done ∷ Receipt 1 ∷ Receipt 2 ∷ Done ∷ Done
    ∷ flat_map told_two (range_with_len 1 13) ++ Table second_january ∷ []
