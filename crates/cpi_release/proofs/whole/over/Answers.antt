use Rattle.std.proofs.Common.{◌≡◌, None, sym, ap, ◌∙◌, subst}
use Rattle.std.specs.Prelude.{IsSome, Option, Result, MatchResult}
use Rattle.std.specs.Option.{option_copied}
use Rattle.cpi_index.specs.Series.{are_by_series, frozen_serial}
use Rattle.cpi_release.specs.Asking.{MayFreeze}
use Rattle.cpi_release.specs.CachedSamples.{sources_of, sources_in, IsFit}
use Rattle.cpi_release.specs.GroupCalls.{Sources}
use Rattle.cpi_release.specs.Summed.{IsFreezeFault}
use Rattle.cpi_plan.specs.Plan.{Plan}
use Rattle.cpi_release.specs.declared.release.Release.{Release}
use Rattle.cpi_release.specs.declared.freeze_fault.FreezeFault.{FreezeFault}
use Rattle.cpi_release.specs.Releasing.{Freeze, plan_in, fault_of, release_of_month}
use Rattle.cpi_release.proofs.whole.over.Goals as goal

abbrev Computed : Sources → Option Plan → Freeze → Result Release FreezeFault → Type 0
Computed s plan x result = MatchResult result
    (λ r. (fault_of plan s.releases x ≡ None) × (r ≡ release_of_month plan s.releases x))
    (IsFreezeFault (fault_of plan s.releases x))

moved_to : (s t : Sources) (p q : Option Plan) (x : Freeze) (result : Result Release FreezeFault) → s ≡ t → p ≡ q →
    Computed s p x result → Computed t q x result
moved_to s t p q x result e f h = subst (λ z. Computed z q x result) e (subst (λ z. Computed s z x result) f h)

pub returns : goal.returns
returns c = λ lent sound ordered after.
    let plans = c.args.history.now.plans in
    let releases = c.args.history.now.releases in
    let month = c.args.month in
    let s = sources_of plans releases c.args.lent.now in
    let x : Freeze = record {
      month = c.args.month;
      revision = c.args.revision;
      frozen_at =
          c.args.frozen_at;
      publishes = c.args.publishes;
      frozen = c.args.frozen.items;
      carry = c.args.carry.items;
    } in
    let plan_is : option_copied c.releasing_plan-plan.result ≡ plan_in plans releases month =
    c.releasing_plan-plan.ensures in
    let fit : IsFit s = (sound, λ _. ap (are_by_series frozen_serial) lent ∙ ordered) in
    let asked : MayFreeze s (option_copied c.releasing_plan-plan.result) x = record {
      plan_is = plan_is;
      quotes = lent;
      after = λ some. after (subst (λ o. IsSome o) plan_is some);
    } in
    let held : sources_in c.new-groups.result ≡ s = ap sources_in c.new-groups.ensures in
    let done = c.compute_by_group.ensures.exact tt (subst IsFit (sym held) fit)
    (subst (λ z. MayFreeze z (option_copied c.releasing_plan-plan.result) x) (sym held) asked) in
    moved_to (sources_in c.new-groups.result) s (option_copied c.releasing_plan-plan.result)
    (plan_in plans releases month) x c.compute_by_group.result held plan_is done
