-- Small runs with plans, computed: each fault of what is sent for a year, what stands already, and what is replaced.
use Rattle.std.specs.Prelude.{◌≡◌, ℕ, List, [], ◌∷◌, ◌++◌, Some, None, refl, codes}
use Rattle.cpi_codes.specs.declared.codes.Code.{Code}
use Rattle.cpi_plan.specs.declared.items.Item.{Item}
use Rattle.cpi_plan.specs.declared.plan_rows.Title.{Title}
use Rattle.cpi_plan.specs.declared.plan_rows.Weight.{Weight}
use Rattle.cpi_plan.specs.declared.plan_rows.Place.{Place}
use Rattle.cpi_plan.specs.declared.plan_rows.Node.{Node}
use Rattle.cpi_plan.specs.declared.plan_bodies.PlanBody.{PlanBody}
use Rattle.cpi_plan.specs.declared.plan_faults.PlanFault.TheVariants as fault
use Rattle.cpi_plan.specs.Plan.{Plan}
use Rattle.cpi_store.specs.Office.{Office, empty_office, PutsPlan}
use Rattle.cpi_office.specs.Runs.{replies, after, trace, changes}
use Rattle.cpi_office.specs.ProjectedChanges.{sights_of, SeesPlan}
use Rattle.cpi_office.specs.Examples.{rice, tea_code, key_a, key_c, by_desk, by_key, by_public, register}
use Rattle.cpi_office.specs.declared.caller.Caller.TheVariants.{Public}
use Rattle.cpi_office.specs.declared.request.Request.TheVariants as request
use Rattle.cpi_office.specs.declared.request.Ask.{Ask}
use Rattle.cpi_office.specs.declared.reply.Reply.TheVariants.{Done, Refused}
use Rattle.cpi_office.specs.declared.refusal.Refusal.TheVariants as refusal

abbrev pub flour : Item
flour = record {
  code = 21756203690618982306406203392;
  text = codes "Flour, wheat";
  unit = codes "1 kg";
  low = 500;
  high = 2000;
}

-- ---- codes

abbrev pub all_items : Code
all_items = record { division = 0; group = None; class = None; subclass = None; aggregate = None; valid = refl }

-- 01
abbrev pub food_and_drink : Code
food_and_drink = record { division = 1; group = None; class = None; subclass = None; aggregate = None; valid = refl }

-- 01.1
abbrev pub food : Code
food = record { division = 1; group = Some 1; class = None; subclass = None; aggregate = None; valid = refl }

-- 01.1.1
abbrev pub cereals : Code
cereals = record { division = 1; group = Some 1; class = Some 1; subclass = None; aggregate = None; valid = refl }

-- 01.1.1.1 and 01.1.1.1-01
abbrev pub of_rice : Code
of_rice = record { division = 1; group = Some 1; class = Some 1; subclass = Some 1; aggregate = None; valid = refl }

abbrev pub packed_rice : Code
packed_rice =
    record { division = 1; group = Some 1; class = Some 1; subclass = Some 1; aggregate = Some 1; valid = refl }

-- 01.1.1.2, 01.1.1.2-01 and 01.1.1.2-02
abbrev pub of_flour : Code
of_flour = record { division = 1; group = Some 1; class = Some 1; subclass = Some 2; aggregate = None; valid = refl }

abbrev pub wheat_flour : Code
wheat_flour =
    record { division = 1; group = Some 1; class = Some 1; subclass = Some 2; aggregate = Some 1; valid = refl }

abbrev pub other_flour : Code
other_flour =
    record { division = 1; group = Some 1; class = Some 1; subclass = Some 2; aggregate = Some 2; valid = refl }

-- ---- what is sent

abbrev pub title : Code → List ℕ → Title
title code words = record { code = code; title = words }

abbrev pub weight : Code → ℕ → Weight
weight code parts = record { code = code; parts = parts }

abbrev pub place : ℕ → Code → Place
place item aggregate = record { item = item; aggregate = aggregate }

-- the titles above 01.1, and those below
abbrev pub upper_titles : List Title
upper_titles = title all_items (codes "All items") ∷ title food_and_drink (codes "Food and drink") ∷ []

abbrev pub lower_titles : List Title
lower_titles =
    title cereals (codes "Cereals")
    ∷ title of_rice (codes "Rice") ∷ title packed_rice (codes "Rice, packed")
    ∷ title of_flour (codes "Flour") ∷ title wheat_flour (codes "Flour, wheat") ∷ []

abbrev pub body : PlanBody
body = record {
  titles = upper_titles ++ title food (codes "Food") ∷ lower_titles;
  weights = weight packed_rice 600000 ∷ weight wheat_flour 400000 ∷ [];
  places = place rice.code packed_rice ∷ place flour.code wheat_flour ∷ [];
  references = [];
}

-- the same rows in another order, with a title of a code that is no node
abbrev pub turned : PlanBody
turned = record {
  titles = lower_titles ++ title other_flour (codes "Flour, other") ∷ title food (codes "Food") ∷ upper_titles;
  weights = weight wheat_flour 400000 ∷ weight packed_rice 600000 ∷ [];
  places = place flour.code wheat_flour ∷ place rice.code packed_rice ∷ [];
  references = [];
}

-- another title of a node
abbrev pub retitled : PlanBody
retitled = record body { titles = upper_titles ++ title food (codes "Foods") ∷ lower_titles }

abbrev pub nothing : PlanBody
nothing = record { titles = []; weights = []; places = []; references = [] }

-- with these reference months; December 2025 is month 311
abbrev pub referring : List ℕ → PlanBody
referring months = record body { references = months }

-- ---- plans

abbrev pub node : Code → List ℕ → ℕ → Node
node code words parts = record { code = code; title = words; weight = parts }

-- the plan of a year, with this title of 01.1
abbrev pub plan : ℕ → List ℕ → Plan
plan year words = record {
  year = year;
  nodes =
      node all_items (codes "All items") 1000000 ∷ node food_and_drink (codes "Food and drink") 1000000
      ∷ node food words 1000000 ∷ node cereals (codes "Cereals") 1000000
      ∷ node of_rice (codes "Rice") 600000 ∷ node packed_rice (codes "Rice, packed") 600000
      ∷ node of_flour (codes "Flour") 400000 ∷ node wheat_flour (codes "Flour, wheat") 400000 ∷ [];
  weights = weight packed_rice 600000 ∷ weight wheat_flour 400000 ∷ [];
  places = place flour.code wheat_flour ∷ place rice.code packed_rice ∷ [];
  reference = None;
}

-- the plan of 2026 with a reference month
abbrev pub plan_referring : ℕ → Plan
plan_referring month = record (plan 2026 (codes "Food")) { reference = Some month }

-- ---- runs

abbrev pub put_plan : ℕ → PlanBody → Ask
put_plan year b = by_desk (request.PutPlan year b)

-- an office that knows two items, and nothing else
abbrev pub shelf : Office
shelf = record empty_office { items = flour ∷ rice ∷ [] }

abbrev pub broken : List Ask
broken =
    put_plan 2026 (record body { titles = body.titles ++ title all_items (codes "Again") ∷ [] })
    ∷ put_plan 2026 (record body { weights = body.weights ++ weight food 1 ∷ [] })
    ∷ put_plan 2026 (record body { weights = weight packed_rice 600000 ∷ weight wheat_flour 0 ∷ [] })
    ∷ put_plan 2026 (record body { weights = weight packed_rice 600000 ∷ weight wheat_flour 399999 ∷ [] })
    ∷ put_plan 2026 nothing
    ∷ put_plan 2026 (record body { titles = upper_titles ++ lower_titles })
    ∷ put_plan 2026 (record body { places = body.places ++ place tea_code packed_rice ∷ [] })
    ∷ put_plan 2026 (record body { places = body.places ++ place rice.code wheat_flour ∷ [] })
    ∷ put_plan 2026 (record body { places = place rice.code packed_rice ∷ place flour.code other_flour ∷ [] })
    ∷ put_plan 2026 (referring (310 ∷ 311 ∷ [])) ∷ put_plan 2026 (referring (312 ∷ []))
    ∷ []

-- each fault, by one change of a body that makes a plan
abbrev pub EachFault : Type 0
EachFault =
    replies (broken ++ put_plan 2026 body ∷ []) shelf
    ≡ Refused (refusal.PlanFault fault.DuplicateCode) ∷ Refused (refusal.PlanFault fault.NotElementary)
    ∷ Refused (refusal.PlanFault fault.ZeroWeight)
    ∷ Refused (refusal.PlanFault (fault.WeightSum 999999)) ∷ Refused (refusal.PlanFault (fault.WeightSum 0))
    ∷ Refused (refusal.PlanFault (fault.TitleMissing food))
    ∷ Refused (refusal.PlanFault fault.UnknownItem) ∷ Refused (refusal.PlanFault fault.ItemTwice)
    ∷ Refused (refusal.PlanFault fault.UnknownAggregate)
    ∷ Refused (refusal.PlanFault fault.Reference) ∷ Refused (refusal.PlanFault fault.Reference)
    ∷ Done ∷ []

-- what is refused changes nothing, also where a plan of the year stands
abbrev pub FaultsChangeNothing : Type 0
FaultsChangeNothing = after (put_plan 2026 body ∷ broken) shelf ≡ record shelf { plans = plan 2026 (codes "Food") ∷ [] }

-- the first fault is told where all are due
abbrev pub FirstFault : Type 0
FirstFault =
    let twice = title all_items (codes "All items") in
    replies
    (put_plan 2026 (record {
      titles = twice ∷ twice ∷ [];
      weights = weight food 0 ∷ [];
      places = place tea_code food
          ∷ place tea_code food ∷ [];
      references = 312 ∷ [];
    })
    ∷ put_plan 2026 (record {
      titles = twice ∷ [];
      weights = weight food 0 ∷ [];
      places = place tea_code food
          ∷ place tea_code food ∷ [];
      references = 312 ∷ [];
    })
    ∷ put_plan 2026 (record {
      titles = twice ∷ [];
      weights = weight packed_rice 0
          ∷ [];
      places = place tea_code wheat_flour ∷ place tea_code wheat_flour ∷ [];
      references = 312 ∷ [];
    })
    ∷ put_plan 2026 (record {
      titles = twice ∷ [];
      weights = weight packed_rice 1
          ∷ [];
      places = place tea_code wheat_flour ∷ place tea_code wheat_flour ∷ [];
      references = 312 ∷ [];
    })
    ∷ put_plan 2026 (record {
      titles = twice ∷ [];
      weights = weight packed_rice 1000000
          ∷ [];
      places = place tea_code wheat_flour ∷ place tea_code wheat_flour ∷ [];
      references = 312 ∷ [];
    })
    ∷ put_plan 2026
    (record (referring (312 ∷ [])) { places = place tea_code other_flour ∷ place tea_code other_flour ∷ [] })
    ∷ put_plan 2026
    (record (referring (312 ∷ [])) { places = place rice.code other_flour ∷ place rice.code other_flour ∷ [] })
    ∷ put_plan 2026 (record (referring (312 ∷ [])) { places = place rice.code other_flour ∷ [] })
    ∷ []) shelf
    ≡ Refused (refusal.PlanFault fault.DuplicateCode) ∷ Refused (refusal.PlanFault fault.NotElementary)
    ∷ Refused (refusal.PlanFault fault.ZeroWeight)
    ∷ Refused (refusal.PlanFault (fault.WeightSum 1)) ∷ Refused (refusal.PlanFault (fault.TitleMissing food_and_drink))
    ∷ Refused (refusal.PlanFault fault.UnknownItem) ∷ Refused (refusal.PlanFault fault.ItemTwice)
    ∷ Refused (refusal.PlanFault fault.UnknownAggregate) ∷ []

-- A plan that stands is done and changes nothing, in whatever order its rows come, and with titles of no nodes. Another
-- title of a node replaces it.
abbrev pub again : List Ask
again = put_plan 2026 body ∷ put_plan 2026 turned ∷ put_plan 2026 retitled ∷ []

abbrev pub PlanStands : Type 0
PlanStands =
    (replies again shelf ≡ Done ∷ Done ∷ Done ∷ [])
    × (changes again shelf ≡ PutsPlan (plan 2026 (codes "Food")) ∷ PutsPlan (plan 2026 (codes "Foods")) ∷ [])
    × (after again shelf ≡ record shelf { plans = plan 2026 (codes "Foods") ∷ [] })

-- A plan keeps its reference month, which is the link month at the latest. Another month replaces it, and so does none.
abbrev pub referred : List Ask
referred =
    put_plan 2026 (referring (311 ∷ [])) ∷ put_plan 2026 (referring (311 ∷ []))
    ∷ put_plan 2026 (referring (0 ∷ [])) ∷ put_plan 2026 body ∷ []

abbrev pub ReferenceStands : Type 0
ReferenceStands =
    (replies referred shelf ≡ Done ∷ Done ∷ Done ∷ Done ∷ [])
    × (changes referred shelf ≡ PutsPlan (plan_referring 311) ∷ PutsPlan (plan_referring 0)
    ∷ PutsPlan (plan 2026 (codes "Food")) ∷ [])

-- no month is before the calendar's first year
abbrev pub NoFirstReference : Type 0
NoFirstReference =
    replies (put_plan 2000 (referring (0 ∷ [])) ∷ put_plan 2001 (referring (11 ∷ []))
    ∷ put_plan 2001 (referring (12 ∷ [])) ∷ []) shelf
    ≡ Refused (refusal.PlanFault fault.Reference) ∷ Done ∷ Refused (refusal.PlanFault fault.Reference) ∷ []

-- everybody sees the plans that were accepted
abbrev pub PlansAreSeen : Type 0
PlansAreSeen =
    sights_of Public 0 (trace again shelf) ≡ SeesPlan (plan 2026 (codes "Food")) ∷ SeesPlan (plan 2026 (codes "Food"))
    ∷ SeesPlan (plan 2026 (codes "Foods")) ∷ []

-- each year has a plan of its own
abbrev pub PlansByYear : Type 0
PlansByYear =
    after (put_plan 2026 body ∷ put_plan 2025 turned ∷ put_plan 2026 retitled
    ∷ []) shelf ≡ record shelf { plans = plan 2025 (codes "Food") ∷ plan 2026 (codes "Foods") ∷ [] }

-- a plan places the items that are known by then
abbrev pub ItemsFirst : Type 0
ItemsFirst =
    replies (put_plan 2026 body ∷ by_desk (request.PutItem rice) ∷ put_plan 2026 body
    ∷ by_desk (request.PutItem flour) ∷ put_plan 2026 body ∷ []) empty_office
    ≡ Refused (refusal.PlanFault fault.UnknownItem) ∷ Done ∷ Refused (refusal.PlanFault fault.UnknownItem) ∷ Done
    ∷ Done ∷ []

-- a plan is the desk's to put
abbrev pub PlansOfTheDesk : Type 0
PlansOfTheDesk =
    replies (by_desk (register 7 key_a) ∷ by_public 0 (request.PutPlan 2026 nothing)
    ∷ by_key 0 key_a (request.PutPlan 2026 nothing) ∷ by_key 0 key_c (request.PutPlan 2026 nothing) ∷ []) shelf
    ≡ Done ∷ Refused refusal.NotForCaller ∷ Refused refusal.NotForCaller ∷ Refused refusal.UnknownKey ∷ []
