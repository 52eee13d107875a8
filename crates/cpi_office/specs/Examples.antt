-- Small runs, computed: what each refusal and each reply looks like, and which comes first.
use Rattle.std.specs.Prelude.{◌≡◌, ℕ, Bool, true, false, List, [], ◌∷◌, ◌++◌, Some, None, codes}
use Rattle.cpi_plan.specs.declared.items.Item.{Item}
use Rattle.cpi_survey.specs.declared.limits.TheConstants.{LAST_RECEIPT}
use Rattle.cpi_survey.specs.declared.mark.Mark.{Mark}
use Rattle.cpi_survey.specs.declared.mark.Mark.TheVariants.{Price, Missing, Comparable, Other}
use Rattle.cpi_survey.specs.declared.mark.Reason.TheVariants.{Stock}
use Rattle.cpi_survey.specs.Quote.{QuoteRow}
use Rattle.cpi_survey.specs.WorkPart.{WorkPart}
use Rattle.cpi_store.specs.Office.{Office, empty_office}
use Rattle.cpi_store.specs.Series.{first_of_series}
use Rattle.cpi_store.specs.declared.given.Given.{Given}
use Rattle.cpi_office.specs.Runs.{replies}
use Rattle.cpi_office.specs.NonInterferenceOfRuns.{collector_replies}
use Rattle.cpi_office.specs.Assigning.{assignment_sent}
use Rattle.cpi_office.specs.declared.caller.Caller.TheVariants.{Public, Collector, Desk}
use Rattle.cpi_office.specs.declared.request.Request.{Request}
use Rattle.cpi_office.specs.declared.request.Request.TheVariants as request
use Rattle.cpi_office.specs.declared.request.NewAssignment.{NewAssignment}
use Rattle.cpi_office.specs.declared.request.Ask.{Ask}
use Rattle.cpi_office.specs.declared.reply.Reply.{Reply}
use Rattle.cpi_office.specs.declared.reply.Reply.TheVariants.{Receipt, Done, Work, Quotes, Items, Refused}
use Rattle.cpi_office.specs.declared.refusal.Refusal.TheVariants as refusal

-- the keys of 32 letters a, b and c
abbrev pub key_a : ℕ
key_a = 226854911280625642308916404954512140970

abbrev pub key_b : ℕ
key_b = 249540402408688206539808045449963355067

abbrev pub key_c : ℕ
key_c = 272225893536750770770699685945414569164

-- the codes RICE and TEA
abbrev pub rice_code : ℕ
rice_code = 25466340061561856917373976576

abbrev pub tea_code : ℕ
tea_code = 26080463660367781712875225088

-- "Rice, white", 1 kg, 700 to 1500 per mille
abbrev pub rice : Item
rice = record { code = rice_code; text = codes "Rice, white"; unit = codes "1 kg"; low = 700; high = 1500 }

abbrev pub shop_name : List ℕ
shop_name = codes "Corner shop"

-- ---- requests

abbrev pub by_desk : Request → Ask
by_desk r = record { now = 0; caller = Desk; request = r }

abbrev pub by_key : ℕ → ℕ → Request → Ask
by_key now key r = record { now = now; caller = Collector key; request = r }

abbrev pub by_public : ℕ → Request → Ask
by_public now r = record { now = now; caller = Public; request = r }

abbrev pub put_shop : ℕ → List ℕ → Request
put_shop number name = request.PutOutlet (record { number = number; name = name })

abbrev pub register : ℕ → ℕ → Request
register number key = request.Register (record { number = number; key = key })

-- the slot of a collector, for an item and an outlet, from 2025-12 to 2026-12
abbrev pub new_assignment : ℕ → ℕ → ℕ → NewAssignment
new_assignment slot outlet item =
    record { slot = slot; outlet = outlet; item = item; first_month = 311; last_month = 323 }

-- what it is given by that: its own series
abbrev pub placed : ℕ → ℕ → ℕ → ℕ → ℕ × Given
placed number slot outlet item = (
  number,
  first_of_series number (assignment_sent (new_assignment slot outlet item)),
)

abbrev pub assign : ℕ → ℕ → ℕ → ℕ → Request
assign number slot outlet item = request.Assign number (new_assignment slot outlet item)

abbrev pub put_month : ℕ → ℕ → ℕ → ℕ → Request
put_month month opens closes publishes = request.PutCalendar (record {
  month = month;
  opens = opens;
  closes = closes;
  publishes = publishes;
})

-- a price; month 312 is 2026-01
abbrev pub quote : ℕ → ℕ → ℕ → Request
quote slot month price = request.Submit (record { slot = slot; month = month; mark = Price price; confirm = false })

abbrev pub stored : ℕ → ℕ → ℕ → ℕ → QuoteRow
stored slot month price receipt = record { slot = slot; month = month; mark = Price price; receipt = receipt }

-- an item, an outlet, a collector with one slot, and a window from 1000 to 2000
abbrev pub setup : List Ask
setup =
    by_desk (request.PutItem rice)
    ∷ by_desk (put_shop 10 shop_name)
    ∷ by_desk (register 7 key_a)
    ∷ by_desk (assign 7 1 10 rice_code)
    ∷ by_desk (put_month 312 1000 2000 3000)
    ∷ []

abbrev pub all_done : List Reply
all_done = Done ∷ Done ∷ Done ∷ Done ∷ Done ∷ []

-- the replies to the requests after the setup
abbrev pub Answers : List Ask → List Reply → Type 0
Answers asks rs = replies (setup ++ asks) empty_office ≡ all_done ++ rs

-- ---- quotes

-- a quote gets a receipt, and is listed
abbrev pub OneQuote : Type 0
OneQuote = Answers
    (by_key 1500 key_a (quote 1 312 210) ∷ by_key 1500 key_a (request.Quotes 312 312) ∷ [])
    (Receipt 1 ∷ Quotes (stored 1 312 210 1 ∷ []) ∷ [])

-- a second slot, and a second collector with one slot
abbrev pub two_collectors : List Ask
two_collectors =
    by_desk (assign 7 2 10 rice_code)
    ∷ by_desk (register 8 key_b)
    ∷ by_desk (assign 8 1 10 rice_code)
    ∷ []

-- each collector has receipts and quotes of its own
abbrev pub TwoCollectors : Type 0
TwoCollectors = Answers
    (two_collectors ++ by_key 1500 key_a (quote 1 312 210) ∷ by_key 1500 key_b (quote 1 312 305)
    ∷ by_key 1500 key_a (quote 2 312 220)
    ∷ by_key 1500 key_a (request.Quotes 312 312) ∷ by_key 1500 key_b (request.Quotes 312 312) ∷ [])
    (Done ∷ Done ∷ Done ∷ Receipt 1 ∷ Receipt 1 ∷ Receipt 2
    ∷ Quotes (stored 1 312 210 1 ∷ stored 2 312 220 2 ∷ []) ∷ Quotes (stored 1 312 305 1 ∷ []) ∷ [])

-- ten quotes of another collector change nothing of it
abbrev pub TenOfAnother : Type 0
TenOfAnother =
    collector_replies key_a (setup ++ two_collectors ++ by_key 1500 key_a (quote 1 312 210)
    ∷ by_key 1500 key_b (quote 1 312 301) ∷ by_key 1500 key_b (quote 1 312 302) ∷ by_key 1500 key_b (quote 1 312 303)
    ∷ by_key 1500 key_b (quote 1 312 304) ∷ by_key 1500 key_b (quote 1 312 305)
    ∷ by_key 1500 key_b (quote 1 312 306) ∷ by_key 1500 key_b (quote 1 312 307) ∷ by_key 1500 key_b (quote 1 312 308)
    ∷ by_key 1500 key_b (quote 1 312 309) ∷ by_key 1500 key_b (quote 1 312 310)
    ∷ by_key 1500 key_a (quote 2 312 220) ∷ by_key 1500 key_a (request.Quotes 312 312) ∷ []) empty_office
    ≡ Receipt 1 ∷ Receipt 2 ∷ Quotes (stored 1 312 210 1 ∷ stored 2 312 220 2 ∷ []) ∷ []

-- the same quote again has its receipt, also after the window; another price then is late
abbrev pub Again : Type 0
Again = Answers
    (by_key 1500 key_a (quote 1 312 210) ∷ by_key 1600 key_a (quote 1 312 210) ∷ by_key 2500 key_a (quote 1 312 210)
    ∷ by_key 2500 key_a (quote 1 312 220) ∷ [])
    (Receipt 1 ∷ Receipt 1 ∷ Receipt 1 ∷ Refused refusal.Closed ∷ [])

-- the window's first and last moment, and a clock that goes back
abbrev pub Window : Type 0
Window = Answers
    (by_key 999 key_a (quote 1 312 201) ∷ by_key 1000 key_a (quote 1 312 201) ∷ by_key 1999 key_a (quote 1 312 202)
    ∷ by_key 2000 key_a (quote 1 312 203) ∷ by_key 1500 key_a (quote 1 312 203) ∷ [])
    (Refused refusal.NotOpen ∷ Receipt 1 ∷ Receipt 2 ∷ Refused refusal.Closed ∷ Receipt 3 ∷ [])

-- An entry's refusals, each where the next ones would be due too: the slot, the month's row, the assignment's months,
-- the window. Month 324 is 2027-01, past the assignment.
abbrev pub EntryRefusals : Type 0
EntryRefusals = Answers
    (by_desk (put_month 324 1000 2000 3000)
    ∷ by_key 1500 key_a (quote 9 312 210) ∷ by_key 1500 key_a (quote 9 318 210)
    ∷ by_key 1500 key_a (quote 1 318 210) ∷ by_key 1500 key_a (quote 1 325 210)
    ∷ by_key 1500 key_a (quote 1 324 210) ∷ by_key 999 key_a (quote 1 324 210) ∷ by_key 2000 key_a (quote 1 324 210)
    ∷ [])
    (Done
    ∷ Refused refusal.UnknownSlot ∷ Refused refusal.UnknownSlot
    ∷ Refused refusal.UnknownMonth ∷ Refused refusal.UnknownMonth
    ∷ Refused refusal.NotActive ∷ Refused refusal.NotActive ∷ Refused refusal.NotActive ∷ [])

-- an office whose collector has one receipt left, with two months
abbrev pub late : Office
late = record {
  items = rice ∷ [];
  plans = [];
  calendar = record { month = 311; opens = 1000; closes = 2000; publishes = 9000 }
      ∷ record { month = 312; opens = 1000; closes = 2000; publishes = 9000 } ∷ [];
  collectors = record { number = 7; key = key_a } ∷ [];
  outlets = record { number = 10; name = shop_name } ∷ [];
  assignments = placed 7 1 10 rice_code ∷ placed 7 2 10 rice_code ∷ [];
  quotes = (7, stored 1 311 900 999999) ∷ [];
  releases = [];
}

-- the last receipt; the window comes before the end of the receipts; quotes are listed by month and then by slot, and
-- none from a later month to an earlier one
abbrev pub LastReceipt : Type 0
LastReceipt =
    replies (by_key 1500 key_a (quote 2 312 800) ∷ by_key 1500 key_a (quote 2 311 5)
    ∷ by_key 999 key_a (quote 2 311 5) ∷ by_key 2000 key_a (quote 2 311 5) ∷ by_key 1500 key_a (quote 2 312 800)
    ∷ by_key 1500 key_a (request.Quotes 311 312) ∷ by_key 1500 key_a (request.Quotes 312 311) ∷ []) late
    ≡ Receipt LAST_RECEIPT ∷ Refused refusal.ReceiptsUsedUp ∷ Refused refusal.NotOpen ∷ Refused refusal.Closed
    ∷ Receipt LAST_RECEIPT
    ∷ Quotes (stored 1 311 900 999999 ∷ stored 2 312 800 LAST_RECEIPT ∷ []) ∷ Quotes [] ∷ []

-- quotes that were entered slot by slot are listed month by month
abbrev pub ByMonth : Type 0
ByMonth = Answers
    (by_desk (put_month 311 1000 2000 3000) ∷ by_desk (assign 7 2 10 rice_code)
    ∷ by_key 1500 key_a (quote 1 312 1) ∷ by_key 1500 key_a (quote 1 311 2) ∷ by_key 1500 key_a (quote 2 312 3)
    ∷ by_key 1500 key_a (quote 2 311 4) ∷ by_key 1500 key_a (request.Quotes 311 312) ∷ [])
    (Done ∷ Done ∷ Receipt 1 ∷ Receipt 2 ∷ Receipt 3 ∷ Receipt 4
    ∷ Quotes (stored 1 311 2 2 ∷ stored 2 311 4 4 ∷ stored 1 312 1 1 ∷ stored 2 312 3 3 ∷ []) ∷ [])

-- ---- marks and work lists

-- a mark for slot 1 in 2026-01, confirmed or not
abbrev pub mark : Mark → Bool → Request
mark m confirm = request.Submit (record { slot = 1; month = 312; mark = m; confirm = confirm })

abbrev pub marked : Mark → ℕ → QuoteRow
marked m receipt = record { slot = 1; month = 312; mark = m; receipt = receipt }

-- A price is taken at the bounds round the last one, and outside them if it is confirmed. A comparable replacement is
-- checked as a price is, any other isn't.
abbrev pub Tolerance : Type 0
Tolerance = Answers
    (by_desk (put_month 311 1000 2000 3000) ∷ by_key 1500 key_a (quote 1 311 1000)
    ∷ by_key 1500 key_a (quote 1 312 699) ∷ by_key 1500 key_a (quote 1 312 700) ∷ by_key 1500 key_a (quote 1 312 1500)
    ∷ by_key 1500 key_a (mark (Price 699) true)
    ∷ by_key 1500 key_a (mark (Comparable 1501) false) ∷ by_key 1500 key_a (mark (Other 5) false) ∷ [])
    (Done ∷ Receipt 1
    ∷ Refused (refusal.OutOfTolerance 1000 700 1500) ∷ Receipt 2 ∷ Receipt 3 ∷ Receipt 4
    ∷ Refused (refusal.OutOfTolerance 1000 700 1500) ∷ Receipt 5 ∷ [])

-- a replacement needs a last price, also if it is confirmed; a missing price is none, and its reason is stored
abbrev pub Replacements : Type 0
Replacements = Answers
    (by_key 1500 key_a (mark (Comparable 300) false) ∷ by_key 1500 key_a (mark (Other 300) true)
    ∷ by_key 1500 key_a (mark (Missing Stock) false) ∷ by_key 1500 key_a (mark (Missing Stock) true)
    ∷ by_key 1500 key_a (request.Quotes 312 312) ∷ [])
    (Refused refusal.NoLastPrice ∷ Refused refusal.NoLastPrice
    ∷ Receipt 1 ∷ Receipt 1 ∷ Quotes (marked (Missing Stock) 1 ∷ []) ∷ [])

-- a row of slot 1, and one of slot 2
abbrev pub working : WorkPart
working = record {
  slot = 1;
  outlet = 10;
  outlet_name = shop_name;
  item = rice_code;
  text = rice.text;
  unit = rice.unit;
  last = None;
  quote = Some (stored 1 312 210 1);
}

abbrev pub waiting : WorkPart
waiting = record working { slot = 2; quote = None }

-- a work list has the collector's own slots and quotes alone, and is no other caller's to ask for
abbrev pub WorkLists : Type 0
WorkLists = Answers
    (two_collectors ++ by_key 1500 key_a (quote 1 312 210) ∷ by_key 1500 key_b (quote 1 312 305)
    ∷ by_key 1500 key_a (request.Work 312) ∷ by_key 1500 key_b (request.Work 312)
    ∷ by_key 1500 key_a (request.Work 313) ∷ by_public 1500 (request.Work 313) ∷ by_desk (request.Work 313)
    ∷ by_key 1500 key_c (request.Work 313) ∷ [])
    (Done ∷ Done ∷ Done ∷ Receipt 1 ∷ Receipt 1
    ∷ Work (working ∷ waiting ∷ []) ∷ Work (record working { quote = Some (stored 1 312 305 1) } ∷ [])
    ∷ Refused refusal.UnknownMonth ∷ Refused refusal.NotForCaller ∷ Refused refusal.NotForCaller
    ∷ Refused refusal.UnknownKey ∷ [])

-- ---- callers

-- every caller may list the items, except one whose key is unknown
abbrev pub ItemsOfAll : Type 0
ItemsOfAll = Answers
    (by_public 1500 request.Items ∷ by_key 1500 key_a request.Items ∷ by_desk request.Items
    ∷ by_key 1500 key_c request.Items ∷ [])
    (Items (rice ∷ []) ∷ Items (rice ∷ []) ∷ Items (rice ∷ []) ∷ Refused refusal.UnknownKey ∷ [])

-- an unknown key comes before a request that isn't the caller's, and that before all else
abbrev pub NotForCallers : Type 0
NotForCallers = Answers
    (by_key 1500 key_c (request.PutItem rice) ∷ by_key 1500 key_a (request.PutItem rice)
    ∷ by_key 1500 key_a (assign 7 1 11 tea_code) ∷ by_public 1500 (quote 1 312 210)
    ∷ by_public 1500 (request.Quotes 312 312)
    ∷ by_public 1500 (request.PutItem rice) ∷ by_desk (quote 9 318 210) ∷ by_desk (request.Quotes 312 312) ∷ [])
    (Refused refusal.UnknownKey ∷ Refused refusal.NotForCaller ∷ Refused refusal.NotForCaller
    ∷ Refused refusal.NotForCaller ∷ Refused refusal.NotForCaller
    ∷ Refused refusal.NotForCaller ∷ Refused refusal.NotForCaller ∷ Refused refusal.NotForCaller ∷ [])

-- ---- the desk

-- what stands exactly is done, before any refusal
abbrev pub StandsAlready : Type 0
StandsAlready = Answers
    (setup ++ [])
    all_done

-- a code, a number, a key or a slot with other content is taken; a number and a key stand together in one row alone
abbrev pub TakenPlaces : Type 0
TakenPlaces = Answers
    (by_desk (request.PutItem (record rice { text = shop_name }))
    ∷ by_desk (request.PutItem (record rice { high = 1501 })) ∷ by_desk (put_shop 10 [])
    ∷ by_desk (register 8 key_b) ∷ by_desk (register 7 key_c) ∷ by_desk (register 9 key_a)
    ∷ by_desk (register 7 key_b) ∷ by_desk (register 8 key_b)
    ∷ by_desk (assign 7 1 10 tea_code) ∷ by_desk (assign 7 1 11 rice_code) ∷ [])
    (Refused refusal.Taken ∷ Refused refusal.Taken ∷ Refused refusal.Taken
    ∷ Done ∷ Refused refusal.Taken ∷ Refused refusal.Taken ∷ Refused refusal.Taken ∷ Done
    ∷ Refused refusal.Taken ∷ Refused refusal.Taken ∷ [])

-- an assignment's refusals in their order: the slot, the item, the outlet, the collector
abbrev pub AssignRefusals : Type 0
AssignRefusals = Answers
    (by_desk (assign 7 1 11 tea_code) ∷ by_desk (assign 9 3 11 tea_code) ∷ by_desk (assign 7 3 10 tea_code)
    ∷ by_desk (assign 9 3 11 rice_code) ∷ by_desk (assign 7 3 11 rice_code) ∷ by_desk (assign 9 3 10 rice_code) ∷ [])
    (Refused refusal.Taken ∷ Refused refusal.UnknownItem ∷ Refused refusal.UnknownItem ∷ Refused refusal.UnknownOutlet
    ∷ Refused refusal.UnknownOutlet ∷ Refused refusal.UnknownCollector ∷ [])

-- a month's row is replaced, and the window with it
abbrev pub NewWindow : Type 0
NewWindow = Answers
    (by_desk (put_month 312 1600 2000 3000) ∷ by_key 1500 key_a (quote 1 312 210)
    ∷ by_key 1600 key_a (quote 1 312 210) ∷ [])
    (Done ∷ Refused refusal.NotOpen ∷ Receipt 1 ∷ [])
