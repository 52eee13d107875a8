-- The bodies of plans with a reference month, and the replies to its faults, computed.
use Rattle.std.specs.Prelude.{◌≡◌, ℕ, List, [], ◌∷◌, ◌++◌, Some, None, codes, refl}
use Rattle.cpi_codes.specs.declared.codes.Code.{Code}
use Rattle.cpi_plan.specs.declared.plan_bodies.PlanBody.{PlanBody}
use Rattle.cpi_plan.specs.declared.plan_faults.PlanFault.TheVariants as plan
use Rattle.cpi_index.specs.declared.fault.IndexFault.TheVariants as index
use Rattle.cpi_office.specs.declared.refusal.Refusal.TheVariants.{PlanFault, Index}
use Rattle.cpi_office.specs.declared.reply.Reply.TheVariants.{Refused}
use Rattle.cpi_wire.specs.Line.{data_of}
use Rattle.cpi_wire.specs.PlanBody.{body_of}
use Rattle.cpi_wire.specs.Refusals.{fault_by_number, numbered_at}

abbrev pub line : List ℕ → List ℕ
line words = words ++ 10 ∷ []

-- 00, and 01.1.1.1-01
abbrev pub all_items : Code
all_items = record { division = 0; group = None; class = None; subclass = None; aggregate = None; valid = refl }

abbrev pub packed_rice : Code
packed_rice =
    record { division = 1; group = Some 1; class = Some 1; subclass = Some 1; aggregate = Some 1; valid = refl }

-- ---- bodies
-- only reference months; December 2025 is month 311
abbrev pub references : List ℕ → PlanBody
references months = record { titles = []; weights = []; places = []; references = months }

-- a row of each form, in any order
abbrev pub AnyOrder : Type 0
AnyOrder =
    body_of (line (codes "R,2025-12") ++ line (codes "I,RICE,01.1.1.1-01") ++ line (codes "T,00,All items")
    ++ codes "W,01.1.1.1-01,1000000")
    ≡ Some (record {
      titles = record { code = all_items; title = codes "All items" } ∷ [];
      weights = record { code = packed_rice; parts = 1000000 } ∷ [];
      places = record { item = 25466340061561856917373976576; aggregate = packed_rice } ∷ [];
      references = 311 ∷ [];
    })

-- every row of a reference month is read: that a plan has one at most is judged later
abbrev pub TwoReferences : Type 0
TwoReferences = body_of (line (codes "R,2025-12") ++ codes "R,2025-06") ≡ Some (references (311 ∷ 305 ∷ []))

-- a month that is none, too few fields or too many, and the letter of another form
abbrev pub NoReferences : Type 0
NoReferences =
    (body_of (codes "R,2025-13") ≡ None) × (body_of (codes "R") ≡ None) × (body_of (codes "R,2025-12,00") ≡ None)
    × (body_of (codes "T,2025-12") ≡ None) × (body_of (codes "r,2025-12") ≡ None)

-- ---- faults
abbrev pub ReferenceFaults : Type 0
ReferenceFaults =
    (data_of (Refused (PlanFault plan.Reference)) ≡ fault_by_number 10 44)
    × (data_of (Refused (Index (index.NoReference packed_rice))) ≡ numbered_at packed_rice 5 49)
