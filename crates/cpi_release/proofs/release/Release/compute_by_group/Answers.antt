use Rattle.std.proofs.Common.{◌≡◌, ◌≤◌, true, Option, Some, sym, ap, ◌∙◌, refl}
use Rattle.std.specs.Prelude.{IsSome}
use Rattle.std.specs.Option.{option_copied}
use Rattle.cpi_codes.specs.declared.codes.Code.{Code}
use Rattle.cpi_plan.specs.Plan.{Plan}
use Rattle.cpi_index.specs.Month.{sample_rows, carried_in_month}
use Rattle.cpi_index.specs.Series.{are_by_series, carried_serial}
use Rattle.cpi_release.specs.Asking.{CanAsk, MayFreeze}
use Rattle.cpi_release.specs.GroupCalls.{Sources, group_of}
use Rattle.cpi_release.specs.Releases.{rows_of_bases}
use Rattle.cpi_release.specs.Releasing.{Freeze, AreInOrder}
use Rattle.cpi_release.proofs.Late.{late}
use Rattle.cpi_release.proofs.Sound.{year_plan, group_is, can_ask, carry_ordered, is_released}
use Rattle.cpi_release.proofs.release.Release.compute_by_group.Goals as goal

-- the month of a freeze with a plan follows a December; its groups can be asked for and are its samples; and the prices
-- that it carries are by series
freeze_can_ask : (s : Sources) (plan : Option Plan) (p : Plan) (x : Freeze) → plan ≡ Some p → MayFreeze s plan x →
    AreInOrder s.releases →
    (12 ≤ x.month) × CanAsk s x.month
    × ((code : Code) → group_of s x.month code ≡ sample_rows p code (rows_of_bases p s.releases x.month x.frozen))
    × (are_by_series carried_serial (carried_in_month p (rows_of_bases p s.releases x.month x.frozen)) ≡ true)
freeze_can_ask s plan p x given asked order =
    let some : IsSome plan = rw given refl in
    let own = group_is s x.month p x.frozen (year_plan s.plans s.releases x.month p (sym given ∙ asked.plan_is))
    asked.quotes in (
      late s x.month order (asked.after some),
      can_ask s x.month p x.frozen order (asked.after some) own,
      own,
      carry_ordered s.releases order p x.month x.frozen,
    )

pub returns-in-Err-clause-exact : goal.returns-in-Err-clause-exact
returns-in-Err-clause-exact g c = λ clean sound asked.
    let s = g.G.Groups.sources (g.G.Groups.holds c.args.groups.now).held in
    let p = c.in-Some.plan.now in
    let given : option_copied c.args.plan ≡ Some p = ap option_copied c.in-Some.is in
    let can = freeze_can_ask s (option_copied c.args.plan) p _ given asked
    (g.met.G.Groups.has_sound (g.G.Groups.holds c.args.groups.now).held sound) in
    let made = rw c.deref.ensures.value at (c.in-Err.ensures.exact clean sound can.0 can.1
    (rows_of_bases p s.releases c.args.month c.args.frozen.items) can.2 can.3) in
    rw given made

pub returns-clause-exact : goal.returns-clause-exact
returns-clause-exact g c = λ clean sound asked.
    let s = g.G.Groups.sources (g.G.Groups.holds c.args.groups.now).held in
    let p = c.in-Some.plan.now in
    let given : option_copied c.args.plan ≡ Some p = ap option_copied c.in-Some.is in
    let can = freeze_can_ask s (option_copied c.args.plan) p _ given asked
    (g.met.G.Groups.has_sound (g.G.Groups.holds c.args.groups.now).held sound) in
    let made = rw c.deref.ensures.value at (c.in-Ok.ensures.exact clean sound can.0 can.1
    (rows_of_bases p s.releases c.args.month c.args.frozen.items) can.2 can.3) in
    rw given (
      made.0,
      is_released p s.releases _ c.in-Ok.made.carried.items c.in-Ok.made.levels.items
          c.release_with-2.result c.release_with-2.ensures made.1 made.2,
    )
