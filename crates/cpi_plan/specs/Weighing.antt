-- The sums of the weights that were sent, or the first fault of weights and titles.
use Rattle.std.specs.Prelude.{ℕ, ◌≡◌, Result, MatchResult}
use Rattle.std.specs.BTreeMap.{BTreeMap}
use Rattle.cpi_codes.specs.declared.codes.Code.{Code}
use Rattle.cpi_plan.specs.Plan.{Body, Passes5, IsFirstFault}
use Rattle.cpi_plan.specs.Sums.{sum_at, weight_under}
use Rattle.cpi_plan.specs.declared.plan_faults.PlanFault.{PlanFault}

-- the sums at and below each code if none of their tests fails, or the first fault
abbrev pub IsWeighed : ℕ → Body → Result (BTreeMap Code ℕ) PlanFault → Type 0
IsWeighed year b result =
    MatchResult result
    (λ sums. Passes5 b × ((code : Code) → sum_at sums code ≡ weight_under code b.weights))
    (λ fault. IsFirstFault year fault b)
