-- The JSON value of a refusal.
use Rattle.std.specs.Prelude.{ℕ, codes, nat_le, if◌then◌else◌}
use Rattle.serde_json.specs.Data.{Data, object, no_members, member}
use Rattle.cpi_codes.specs.CodeText.{code_text}
use Rattle.cpi_codes.specs.declared.codes.Code.{Code}
use Rattle.cpi_plan.specs.declared.plan_faults.PlanFault.{PlanFault}
use Rattle.cpi_plan.specs.declared.plan_faults.PlanFault.TheVariants as plan
use Rattle.cpi_index.specs.declared.fault.IndexFault.{IndexFault}
use Rattle.cpi_index.specs.declared.fault.IndexFault.TheVariants as index
use Rattle.cpi_office.specs.declared.refusal.Refusal.{Refusal}
use Rattle.cpi_office.specs.declared.refusal.Refusal.TheVariants as refusal
use Rattle.cpi_office.specs.Refusal.{refusal_number}
use Rattle.cpi_wire.specs.Json.{int, text_value, object_of_one}

abbrev pub number_of_plan_fault : PlanFault → ℕ
number_of_plan_fault plan.DuplicateCode = 1
number_of_plan_fault plan.NotElementary = 2
number_of_plan_fault plan.ZeroWeight = 3
number_of_plan_fault (plan.WeightSum found) = 4
number_of_plan_fault (plan.TitleMissing code) = 5
number_of_plan_fault plan.UnknownItem = 6
number_of_plan_fault plan.ItemTwice = 7
number_of_plan_fault plan.UnknownAggregate = 8
number_of_plan_fault plan.NoMemory = 9
number_of_plan_fault plan.Reference = 10

-- the greatest number of 64 bits
abbrev pub most_u64 : ℕ
most_u64 = 18446744073709551615

-- a sum of weights, capped at the greatest number of 64 bits: the weights of no record have a greater sum
abbrev pub sum_in_refusal : ℕ → ℕ
sum_in_refusal found = if nat_le found most_u64 then found else most_u64

-- the fault of a refusal by its number
abbrev pub fault_by_number : ℕ → ℕ → Data
fault_by_number fault why = object (member (codes "fault") (int fault) (member (codes "refused") (int why) no_members))

-- and with the code that has it
abbrev pub numbered_at : Code → ℕ → ℕ → Data
numbered_at code fault why =
    object (member (codes "code") (text_value (code_text code))
    (member (codes "fault") (int fault) (member (codes "refused") (int why) no_members)))

-- a fault of a plan: a wrong sum with that sum, a missing title with its code
abbrev pub plan_fault_data : PlanFault → Data
plan_fault_data (plan.WeightSum found) =
    object (member (codes "fault") (int 4)
    (member (codes "found") (int (sum_in_refusal found)) (member (codes "refused") (int 44) no_members)))
plan_fault_data (plan.TitleMissing code) = numbered_at code 5 44
plan_fault_data fault = fault_by_number (number_of_plan_fault fault) 44

-- a fault of the index of a month, with the code that has it
abbrev pub index_fault_data : IndexFault → Data
index_fault_data (index.NoSample code) = numbered_at code 1 49
index_fault_data (index.NoMatch code) = numbered_at code 2 49
index_fault_data (index.OutOfRange code) = numbered_at code 3 49
index_fault_data index.NoMemory = fault_by_number 4 49
index_fault_data (index.NoReference code) = numbered_at code 5 49

-- a refusal has its number; a price out of tolerance has also the last price and the bounds, and a fault of a plan or
-- of an index has also that fault
abbrev pub refusal_data : Refusal → Data
refusal_data (refusal.OutOfTolerance last low high) =
    object (member (codes "high") (int high) (member (codes "last") (int last)
    (member (codes "low") (int low) (member (codes "refused") (int 26) no_members))))
refusal_data (refusal.PlanFault fault) = plan_fault_data fault
refusal_data (refusal.Index fault) = index_fault_data fault
refusal_data why = object_of_one (codes "refused") (int (refusal_number why))
