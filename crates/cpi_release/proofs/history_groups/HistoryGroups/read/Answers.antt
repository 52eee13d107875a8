use Rattle.std.proofs.Common.{◌≡◌, sym, ap, ◌∙◌, refl, subst}
use Rattle.cpi_release.specs.GroupCalls.{group_of}
use Rattle.cpi_release.specs.CachedSamples.{sources_of, sources_in, IsFit}
use Rattle.cpi_release.proofs.history_groups.HistoryGroups.read.Goals as goal

pub returns-in-Some-clause-shown : goal.returns-in-Some-clause-shown
returns-in-Some-clause-shown c = λ fit late.
    let s = sources_of c.self.inside.history.now.plans c.self.inside.history.now.releases c.self.inside.frozen.now in
    let same : s ≡ sources_in c.args.self.now = ap sources_in c.self.view_is in
    let found = rw c.in-Some.is at c.in_ok-rows.ensures.rows in
    found s c.plan_of-plan.ensures c.self.invariant (subst IsFit (sym same) fit) late
    ∙ ap (λ z. group_of z c.args.month c.args.code) same

pub returns-clause-shown : goal.returns-clause-shown
returns-clause-shown c = λ fit late.
    let s = sources_of c.self.inside.history.now.plans c.self.inside.history.now.releases c.self.inside.frozen.now in
    let same : s ≡ sources_in c.args.self.now = ap sources_in c.self.view_is in
    let plan = c.plan_of-plan.ensures in
    let made = c.in_ok-groups.ensures s plan (sym c.as_slice-releases.ensures) refl in
    c.in_ok-rows-2.ensures.rows s plan made (subst IsFit (sym same) fit) late
    ∙ ap (λ z. group_of z c.args.month c.args.code) same

pub invariant_of-self-2 : goal.invariant_of-self-2
invariant_of-self-2 c =
    let s = sources_of c.self.inside.history.now.plans c.self.inside.history.now.releases c.self.inside.frozen.now in
    rw c.in_ok-rows-2.ensures.kept
    (c.in_ok-groups.ensures s c.plan_of-plan.ensures (sym c.as_slice-releases.ensures) refl)
