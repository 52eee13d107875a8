-- Releases, each made after those before it.
use Rattle.std.specs.Prelude.{◌≡◌, true, false, List, [], ◌∷◌, ◌++◌, None, ⊤}
use Rattle.cpi_plan.specs.Plan.{Plan}
use Rattle.cpi_release.specs.FrozenMonths.{frozen_months, is_next_month, revision_to_give, plan_for, lacks_plan}
use Rattle.cpi_release.specs.Releasing.{release_of_month, fault_of, freeze_of}
use Rattle.cpi_release.specs.declared.release.Release.{Release}

-- A release is of the month after those before it or of the last of them again, in the revision that follows, had its
-- plan, and is what is released of what was frozen with it, by that plan and the releases before it.
pub record IsReleased (plans : List Plan) (before : List Release) (r : Release) : Type 0 where
  pub follows : is_next_month r.month (frozen_months before) ≡ true
  pub revision : r.revision ≡ revision_to_give r.month (frozen_months before)
  pub planned : lacks_plan plans (frozen_months before) r.month ≡ false
  pub faultless : fault_of (plan_for plans (frozen_months before) r.month) before (freeze_of r) ≡ None
  pub computed : r ≡ release_of_month (plan_for plans (frozen_months before) r.month) before (freeze_of r)

-- the releases are made one after the other, after those before them
abbrev pub AreReleased : List Plan → List Release → List Release → Type 0
AreReleased plans before [] = ⊤
AreReleased plans before (r ∷ rs) = IsReleased plans before r × AreReleased plans (before ++ r ∷ []) rs
