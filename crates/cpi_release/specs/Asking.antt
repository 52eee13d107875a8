-- The duties and promises of a pass, whatever it reads from.
use Rattle.std.specs.Prelude.{◌≡◌, ℕ, ◌<◌, Bool, true, false, List, Option, IsSome, length, slice_index_or}
use Rattle.cpi_codes.specs.declared.codes.Code.{Code}
use Rattle.cpi_plan.specs.Plan.{Plan}
use Rattle.cpi_plan.specs.declared.plan_rows.Weight.{Weight}
use Rattle.cpi_index.specs.Month.{is_listed}
use Rattle.cpi_index.specs.Series.{are_by_series, row_serial}
use Rattle.cpi_index.specs.declared.fault.IndexFault.TheVariants.{NoMemory}
use Rattle.cpi_release.specs.GroupCalls.{Sources, group_of, IsAfterFrozen}
use Rattle.cpi_release.specs.Releasing.{Freeze, plan_in}
use Rattle.cpi_release.specs.declared.freeze_fault.FreezeFault.{FreezeFault}
use Rattle.cpi_release.specs.declared.freeze_fault.FreezeFault.TheVariants.{Index, Group}

-- for each weight, whether its aggregate is listed
abbrev pub AreListed : List Weight → List Code → List Bool → Type 0
AreListed weights carry unchanged = (k : ℕ) (d : Weight) → k < length weights →
    slice_index_or unchanged k false ≡ is_listed carry (slice_index_or weights k d).code

-- the month's groups can be asked for, and each is by series
pub record CanAsk (s : Sources) (month : ℕ) : Type 0 where
  pub after : IsAfterFrozen s month
  pub ordered : (code : Code) → are_by_series row_serial (group_of s month code) ≡ true

-- lack of memory, or a read that failed
abbrev pub IsReadFault : ℕ → ℕ → FreezeFault → Type 0
IsReadFault old new Group = old < new
IsReadFault old new (Index f) = f ≡ NoMemory

-- the caller of a freeze owes the plan of the year, and no plan only at the first release; the quotes as they are; and,
-- if there is a plan, that the month before was frozen
pub record MayFreeze (s : Sources) (plan : Option Plan) (x : Freeze) : Type 0 where
  pub plan_is : plan ≡ plan_in s.plans s.releases x.month
  pub quotes : s.quotes x.month ≡ x.frozen
  pub after : IsSome plan → IsAfterFrozen s x.month
