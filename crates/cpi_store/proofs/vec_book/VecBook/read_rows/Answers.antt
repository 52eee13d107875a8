use Rattle.std.proofs.Common.{◌≡◌, sym, ap, ◌∙◌, subst}
use Rattle.cpi_release.specs.CachedSamples.{IsFit, AreGroupsOf}
use Rattle.cpi_release.specs.GroupCalls.{group_of}
use Rattle.cpi_store.specs.Office.{Office, with_releases}
use Rattle.cpi_store.specs.Holders.{Kept}
use Rattle.cpi_store.specs.Sources.{office_sources}
use Rattle.cpi_store.proofs.vec_book.VecBook.read_rows.Goals as goal

pub returns-in-Some-clause-shown : goal.returns-in-Some-clause-shown
returns-in-Some-clause-shown c = λ fit late.
    let o : Office = with_releases c.self.inside.releases.items c.self.inside.survey in
    let same : o ≡ c.args.self.now.office = ap (λ (k : Kept). k.office) c.self.view_is in
    let own_fit : IsFit (office_sources o) = subst (λ u. IsFit (office_sources u)) (sym same) fit in
    let found = rw c.in-Some.is at c.in_ok-rows.ensures.rows in
    found (office_sources o) c.plan_of-plan.ensures c.self.invariant.kept own_fit late
    ∙ ap (λ u. group_of (office_sources u) c.args.month c.args.code) same

pub returns-clause-shown : goal.returns-clause-shown
returns-clause-shown c = λ fit late.
    let o : Office = with_releases c.self.inside.releases.items c.self.inside.survey in
    let same : o ≡ c.args.self.now.office = ap (λ (k : Kept). k.office) c.self.view_is in
    let own_fit : IsFit (office_sources o) = subst (λ u. IsFit (office_sources u)) (sym same) fit in
    let made : AreGroupsOf (office_sources o) c.args.month c.in_ok-groups.groups.items =
    c.in_ok-groups.ensures (office_sources o) c.plan_of-plan.ensures (sym c.deref.ensures.value)
    (sym (c.deref-2.ensures.value ∙ c.in_ok-frozen.ensures (own_fit.1 c.args.month))) in
    c.in_ok-rows-2.ensures.rows (office_sources o) c.plan_of-plan.ensures made own_fit late
    ∙ ap (λ u. group_of (office_sources u) c.args.month c.args.code) same

pub invariant_of-self-2 : goal.invariant_of-self-2
invariant_of-self-2 c =
    let o : Office = with_releases c.self.inside.releases.items c.self.inside.survey in
    let made : AreGroupsOf (office_sources o) c.args.month c.in_ok-groups.groups.items = λ p fit late found.
    c.in_ok-groups.ensures (office_sources o) c.plan_of-plan.ensures (sym c.deref.ensures.value)
    (sym (c.deref-2.ensures.value ∙ c.in_ok-frozen.ensures (fit.1 c.args.month))) p fit late found in
    record { releases = c.self.invariant.releases; kept = rw c.in_ok-rows-2.ensures.kept made }
