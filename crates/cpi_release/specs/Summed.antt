-- The sums of a pass when no aggregate lacks anything, and the possible faults of a table.
use Rattle.std.specs.Prelude.{◌≡◌, ◌≢◌, ◌≤◌, ⊤, List, Option, Some, nat_lt}
use Rattle.cpi_codes.specs.declared.codes.Code.{Code}
use Rattle.cpi_plan.specs.Plan.{Plan}
use Rattle.cpi_plan.specs.Sums.{sum_at, weight_under}
use Rattle.cpi_index.specs.Row.{Row}
use Rattle.cpi_index.specs.declared.fault.IndexFault.{IndexFault}
use Rattle.cpi_index.specs.declared.fault.IndexFault.TheVariants.{NoMemory}
use Rattle.cpi_index.specs.Means.{weighted_under}
use Rattle.cpi_release.specs.MonthTable.{aggregate_index, is_imputed_under}
use Rattle.cpi_release.specs.declared.freeze_fault.FreezeFault.{FreezeFault}
use Rattle.cpi_release.specs.declared.freeze_fault.FreezeFault.TheVariants.{Index, Group}
use Rattle.cpi_release.specs.declared.pass.Pass.{Pass}

pub record IsSummed (plan : Plan) (rows : List Row) (pass : Pass) : Type 0 where
  pub sums : (q : Code) → sum_at pass.sums q ≡ weighted_under (aggregate_index plan rows) q plan.weights
  pub least : (q : Code) → weight_under q plan.weights ≤ sum_at pass.sums q
  pub flags : (q : Code) → nat_lt 0 (sum_at pass.imputed q) ≡ is_imputed_under plan rows q

-- the fault of the definitions, lack of memory and failed reads aside
abbrev pub IsFreezeFault : Option IndexFault → FreezeFault → Type 0
IsFreezeFault fault Group = ⊤
IsFreezeFault fault (Index f) = f ≢ NoMemory → fault ≡ Some f
