-- The answer to lists that a call can't take: carried prices or quotes that aren't by series, indices that aren't
-- the plan's, link levels that aren't in code order.
use Rattle.std.specs.Prelude.{◌≡◌, true, List, Option, Some, option_map, find}
use Rattle.cpi_codes.specs.declared.codes.Code.{Code}
use Rattle.cpi_plan.specs.Plan.{Plan}
use Rattle.cpi_index.specs.Sample.{first_code}
use Rattle.cpi_index.specs.declared.index.NodeIndex.{NodeIndex}
use Rattle.cpi_index.specs.declared.fault.IndexFault.{IndexFault}
use Rattle.cpi_index.specs.declared.fault.IndexFault.TheVariants.{OutOfRange}

-- the first aggregate of a plan, in code order
abbrev pub first_aggregate_of : Plan → Option Code
first_aggregate_of plan = first_code (λ _. true) plan.weights

-- out of range, of the plan's first aggregate
abbrev pub IsFirstOutOfRange : Plan → IndexFault → Type 0
IsFirstOutOfRange plan fault = option_map OutOfRange (first_aggregate_of plan) ≡ Some fault

-- out of range, of the first node that has an index
abbrev pub IsFirstNodeOutOfRange : List NodeIndex → IndexFault → Type 0
IsFirstNodeOutOfRange within fault = option_map (λ x. OutOfRange x.code) (find (λ _. true) within) ≡ Some fault
