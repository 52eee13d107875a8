-- Small runs with freezes, computed: a month from its quotes to its table, and what is refused, in order.
use Rattle.std.specs.Prelude.{◌≡◌, ℕ, List, [], ◌∷◌, ◌++◌, Some, None, codes}
use Rattle.cpi_codes.specs.declared.codes.Code.{Code}
use Rattle.cpi_plan.specs.declared.items.Item.{Item}
use Rattle.cpi_plan.specs.declared.plan_faults.PlanFault.TheVariants as fault
use Rattle.cpi_index.specs.declared.fault.IndexFault.TheVariants as index
use Rattle.cpi_release.specs.declared.frozen_month.FrozenMonth.{FrozenMonth}
use Rattle.cpi_release.specs.declared.form.Form.TheVariants.{Text}
use Rattle.cpi_store.specs.Office.{Office, empty_office}
use Rattle.cpi_office.specs.Runs.{replies}
use Rattle.cpi_office.specs.Examples.{key_a, rice_code, shop_name, by_desk, by_key, by_public}
use Rattle.cpi_office.specs.Examples.{put_shop, register, assign, put_month, quote}
use Rattle.cpi_office.specs.PlanExamples.{body, retitled, referring, put_plan}
use Rattle.cpi_office.specs.PlanExamples.{flour, packed_rice, wheat_flour, other_flour}
use Rattle.cpi_office.specs.declared.caller.Caller.TheVariants.{Desk}
use Rattle.cpi_office.specs.declared.request.NewAssignment.{NewAssignment}
use Rattle.cpi_office.specs.declared.request.Request.{Request}
use Rattle.cpi_office.specs.declared.request.Request.TheVariants as request
use Rattle.cpi_office.specs.declared.request.Ask.{Ask}
use Rattle.cpi_office.specs.declared.reply.Reply.{Reply}
use Rattle.cpi_office.specs.declared.reply.Reply.TheVariants.{Receipt, Done, Tables, Table, Refused}
use Rattle.cpi_office.specs.declared.refusal.Refusal.TheVariants as refusal

-- "Rice", 1 kg, 500 to 2000 per mille
abbrev pub rice : Item
rice = record { code = rice_code; text = codes "Rice"; unit = codes "1 kg"; low = 500; high = 2000 }

abbrev pub at_desk : ℕ → Request → Ask
at_desk now r = record { now = now; caller = Desk; request = r }

abbrev pub freeze : ℕ → ℕ → List Code → Ask
freeze now month carry = at_desk now (request.Freeze month carry)

abbrev pub frozen_month : ℕ → ℕ → ℕ → FrozenMonth
frozen_month month revision publishes = record { month = month; revision = revision; publishes = publishes }

-- two items, an outlet, a collector with four slots, two months and a plan
abbrev pub opened : List Ask
opened =
    by_desk (request.PutItem rice) ∷ by_desk (request.PutItem flour) ∷ by_desk (put_shop 10 shop_name)
    ∷ by_desk (register 7 key_a)
    ∷ by_desk (assign 7 1 10 rice_code) ∷ by_desk (assign 7 2 10 rice_code) ∷ by_desk (assign 7 3 10 rice_code)
    ∷ by_desk (assign 7 4 10 flour.code)
    ∷ by_desk (put_month 311 0 1000 1000) ∷ by_desk (put_month 312 1000 2000 3000) ∷ put_plan 2026 body ∷ []

abbrev pub all_done : List Reply
all_done = Done ∷ Done ∷ Done ∷ Done ∷ Done ∷ Done ∷ Done ∷ Done ∷ Done ∷ Done ∷ Done ∷ []

abbrev pub december : List Ask
december =
    by_key 100 key_a (quote 1 311 200) ∷ by_key 100 key_a (quote 2 311 300) ∷ by_key 100 key_a (quote 3 311 500)
    ∷ by_key 100 key_a (quote 4 311 500) ∷ []

abbrev pub january : List Ask
january =
    by_key 1100 key_a (quote 1 312 210) ∷ by_key 1100 key_a (quote 2 312 300) ∷ by_key 1100 key_a (quote 3 312 540)
    ∷ by_key 1100 key_a (quote 4 312 490) ∷ []

abbrev pub line : List ℕ → List ℕ
line words = words ++ 10 ∷ []

abbrev pub january_text : List ℕ
january_text =
    line (codes "CPI 2026-01")
    ++ line (codes "00          1000000      102.2        102.2     2.2       - . All items")
    ++ line (codes "01          1000000      102.2        102.2     2.2       - . Food and drink")
    ++ line (codes "01.1        1000000      102.2        102.2     2.2       - . Food")
    ++ line (codes "01.1.1      1000000      102.2        102.2     2.2       - . Cereals")
    ++ line (codes "01.1.1.1     600000      105.0        105.0     5.0       - . Rice")
    ++ line (codes "01.1.1.1-01  600000      105.0        105.0     5.0       - . Rice, packed")
    ++ line (codes "01.1.1.2     400000       98.0         98.0    -2.0       - . Flour")
    ++ line (codes "01.1.1.2-01  400000       98.0         98.0    -2.0       - . Flour, wheat")

-- from quotes to a table: it isn't frozen before its window closes, and is shown from its moment of publishing on
abbrev pub OneMonth : Type 0
OneMonth =
    replies (opened ++ december ++ freeze 1000 311 [] ∷ january ++ freeze 1999 312 [] ∷ freeze 2000 312 []
    ∷ by_public 2999 (request.Table 312 Text None) ∷ by_public 3000 (request.Table 312 Text None)
    ∷ by_public 2999 request.Tables ∷ by_key 3000 key_a request.Tables ∷ []) empty_office
    ≡ all_done ++ Receipt 1 ∷ Receipt 2 ∷ Receipt 3 ∷ Receipt 4 ∷ Done ∷ Receipt 5 ∷ Receipt 6 ∷ Receipt 7 ∷ Receipt 8
    ∷ Refused refusal.FreezeTooEarly ∷ Done
    ∷ Refused refusal.NoTable ∷ Table january_text ∷ Tables (frozen_month 311 1 1000 ∷ [])
    ∷ Tables (frozen_month 311 1 1000 ∷ frozen_month 312 1 3000 ∷ []) ∷ []

-- the refusals of a freeze, in order
abbrev pub FreezeRefusals : Type 0
FreezeRefusals =
    replies (opened ++ freeze 1000 312 [] ∷ freeze 999 311 [] ∷ freeze 1000 311 (wheat_flour ∷ [])
    ∷ freeze 1000 311 [] ∷ freeze 1000 311 []
    ∷ freeze 2000 313 [] ∷ freeze 1999 312 (other_flour ∷ []) ∷ freeze 2000 312 (other_flour ∷ []) ∷ freeze 2000 312 []
    ∷ by_key 1000 key_a (request.Freeze 312 []) ∷ by_public 1000 (request.Freeze 312 []) ∷ []) empty_office
    ≡ all_done ++ Refused refusal.FreezeOrder ∷ Refused refusal.FreezeTooEarly
    ∷ Refused (refusal.PlanFault fault.UnknownAggregate) ∷ Done ∷ Refused refusal.MonthFrozen
    ∷ Refused refusal.FreezeOrder ∷ Refused refusal.FreezeTooEarly
    ∷ Refused (refusal.PlanFault fault.UnknownAggregate) ∷ Refused (refusal.Index (index.NoSample packed_rice))
    ∷ Refused refusal.NotForCaller ∷ Refused refusal.NotForCaller ∷ []

-- the first table has no rows, so no weights can be moved by prices up to its month; the plan stays as it was sent
abbrev pub WithoutReference : Type 0
WithoutReference =
    replies (opened ++ put_plan 2026 (referring (311 ∷ [])) ∷ december ++ freeze 1000 311 [] ∷ freeze 2000 312 []
    ∷ put_plan 2026 body ∷ january ++ freeze 2000 312 [] ∷ by_public 3000 (request.Table 312 Text None) ∷ [])
    empty_office
    ≡ all_done ++ Done ∷ Receipt 1 ∷ Receipt 2 ∷ Receipt 3 ∷ Receipt 4 ∷ Done
    ∷ Refused (refusal.Index (index.NoReference packed_rice))
    ∷ Done ∷ Receipt 5 ∷ Receipt 6 ∷ Receipt 7 ∷ Receipt 8 ∷ Done ∷ Table january_text ∷ []

-- without a calendar row, and without a plan
abbrev pub early : Office
early =
    record empty_office {
      calendar = record { month = 311; opens = 0; closes = 1000; publishes = 1000 }
          ∷ record { month = 312; opens = 1000; closes = 2000; publishes = 3000 } ∷ [];
    }

abbrev pub WithoutRows : Type 0
WithoutRows =
    replies (freeze 5000 323 [] ∷ freeze 1000 311 [] ∷ freeze 2000 312 [] ∷ []) early
    ≡ Refused refusal.UnknownMonth ∷ Done ∷ Refused refusal.NoPlan ∷ []

-- A frozen month keeps its row and its year's plan: what stands already is done, and anything else is refused, but a
-- row by which the last month is published later. A quote is taken as before.
abbrev pub FrozenRows : Type 0
FrozenRows =
    replies (opened ++ december ++ freeze 1000 311 [] ∷ january ++ freeze 2000 312 []
    ∷ by_desk (put_month 312 1000 2000 3000) ∷ by_desk (put_month 312 1000 2000 2999) ∷ put_plan 2026 body
    ∷ put_plan 2026 retitled ∷ put_plan 2025 body ∷ put_plan 2027 body
    ∷ by_key 1500 key_a (quote 1 312 211) ∷ by_public 3000 (request.Table 312 Text None) ∷ []) empty_office
    ≡ all_done ++ Receipt 1 ∷ Receipt 2 ∷ Receipt 3 ∷ Receipt 4 ∷ Done ∷ Receipt 5 ∷ Receipt 6 ∷ Receipt 7 ∷ Receipt 8
    ∷ Done
    ∷ Done ∷ Refused refusal.MonthFrozen ∷ Done ∷ Refused refusal.PlanFrozen ∷ Refused refusal.PlanFrozen ∷ Done
    ∷ Receipt 9 ∷ Table january_text ∷ []

-- ---- the last frozen month is reopened, and frozen again
abbrev pub second_text : List ℕ
second_text =
    line (codes "CPI 2026-01 revision 2")
    ++ line (codes "00          1000000      103.0        103.0     3.0       - . All items")
    ++ line (codes "01          1000000      103.0        103.0     3.0       - . Food and drink")
    ++ line (codes "01.1        1000000      103.0        103.0     3.0       - . Food")
    ++ line (codes "01.1.1      1000000      103.0        103.0     3.0       - . Cereals")
    ++ line (codes "01.1.1.1     600000      105.0        105.0     5.0       - . Rice")
    ++ line (codes "01.1.1.1-01  600000      105.0        105.0     5.0       - . Rice, packed")
    ++ line (codes "01.1.1.2     400000      100.0        100.0     0.0       - . Flour")
    ++ line (codes "01.1.1.2-01  400000      100.0        100.0     0.0       - . Flour, wheat")

abbrev pub two_months : List Ask
two_months = opened ++ december ++ freeze 1000 311 [] ∷ january ++ freeze 2000 312 [] ∷ []

abbrev pub two_frozen : List Reply
two_frozen =
    all_done
    ++ Receipt 1 ∷ Receipt 2 ∷ Receipt 3 ∷ Receipt 4 ∷ Done ∷ Receipt 5 ∷ Receipt 6 ∷ Receipt 7 ∷ Receipt 8 ∷ Done
    ∷ []

-- The first table stays as it was frozen, and is the month's until the second is published.
abbrev pub Reopened : Type 0
Reopened =
    replies (two_months ++ by_desk (put_month 312 3100 3200 3300) ∷ by_key 3150 key_a (quote 4 312 500)
    ∷ freeze 3199 312 [] ∷ freeze 3200 312 [] ∷ freeze 3200 312 []
    ∷ by_public 3299 (request.Table 312 Text None) ∷ by_public 3299 (request.Table 312 Text (Some 2))
    ∷ by_public 3300 (request.Table 312 Text None) ∷ by_public 3300 (request.Table 312 Text (Some 1))
    ∷ by_public 3300 request.Tables ∷ []) empty_office
    ≡ two_frozen ++ Done ∷ Receipt 9 ∷ Refused refusal.FreezeTooEarly ∷ Done ∷ Refused refusal.MonthFrozen
    ∷ Table january_text ∷ Refused refusal.NoTable ∷ Table second_text ∷ Table january_text
    ∷ Tables (frozen_month 311 1 1000 ∷ frozen_month 312 1 3000 ∷ frozen_month 312 2 3300 ∷ []) ∷ []

-- a month stays frozen where its table would be published no later, or where it isn't the last one
abbrev pub CachedFrozen : Type 0
CachedFrozen =
    replies (two_months ++ by_desk (put_month 312 3100 3200 3300) ∷ freeze 3200 312 []
    ∷ by_desk (put_month 312 3100 3200 3300) ∷ by_desk (put_month 312 3100 3200 3250)
    ∷ by_desk (put_month 311 0 4000 5000) ∷ freeze 9000 311 [] ∷ []) empty_office
    ≡ two_frozen ++ Done ∷ Done ∷ Done ∷ Refused refusal.MonthFrozen ∷ Refused refusal.MonthFrozen
    ∷ Refused refusal.MonthFrozen ∷ []

-- an assignment that ends before it begins is no record
abbrev pub backwards : NewAssignment
backwards = record { slot = 1; outlet = 10; item = rice_code; first_month = 312; last_month = 311 }

abbrev pub Backwards : Type 0
Backwards = replies (by_desk (request.Assign 7 backwards) ∷ []) empty_office ≡ Refused refusal.BadRequest ∷ []
