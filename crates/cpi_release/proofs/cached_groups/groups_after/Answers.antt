use Rattle.std.proofs.Common.{◌≡◌, true, false, Some, ◌-◌, cond, sym, ◌∙◌, subst, rules}
use Rattle.cpi_index.specs.Month.{rows_of_month}
use Rattle.cpi_index.specs.MonthGroups.{AreGroups}
use Rattle.cpi_release.specs.Releases.{bases_in, carried_of, link_month, is_january}
use Rattle.cpi_release.proofs.Sound.{carried_ordered, frozen_ordered}
use Rattle.cpi_release.proofs.cached_groups.groups_after.Goals as goal

pub returns-then-month-eq-JANUARY : goal.returns-then-month-eq-JANUARY
returns-then-month-eq-JANUARY c = λ s plan_is prev_is link_is before_is quotes_is p fit late e.
    let month = c.args.month in
    let found : Some c.args.plan.now ≡ Some p = sym plan_is ∙ e in
    let same : c.args.plan.now ≡ p = cc in
    let first : is_january month ≡ true = search rules in
    let groups = rw (prev_is, link_is, sym quotes_is, same) at c.in_ok-january.ensures in
    let bases = bases_in p s.releases month in
    subst (λ b. AreGroups p (rows_of_month bases (cond b bases (carried_of s.releases (month - 1))) (s.quotes month))
    c.in_ok-january.january.items) (sym first)
    (groups (carried_ordered s.releases fit.0 (link_month month)) (frozen_ordered s.releases fit.0 (link_month month))
    (fit.1 month))

pub returns : goal.returns
returns c = λ s plan_is prev_is link_is before_is quotes_is p fit late e.
    let month = c.args.month in
    let found : Some c.args.plan.now ≡ Some p = sym plan_is ∙ e in
    let same : c.args.plan.now ≡ p = cc in
    let later : is_january month ≡ false = search rules in
    let groups = rw (prev_is, link_is, before_is, sym quotes_is, same) at c.in_ok-groups.ensures in
    let bases = bases_in p s.releases month in
    subst (λ b. AreGroups p (rows_of_month bases (cond b bases (carried_of s.releases (month - 1))) (s.quotes month))
    c.in_ok-groups.groups.items) (sym later)
    (groups (carried_ordered s.releases fit.0 (link_month month)) (frozen_ordered s.releases fit.0 (link_month month))
    (carried_ordered s.releases fit.0 (month - 1)) (fit.1 month))
