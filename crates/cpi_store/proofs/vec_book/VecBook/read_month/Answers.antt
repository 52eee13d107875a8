use Rattle.std.proofs.Common.{◌≡◌, ℕ, List, true, sym, ap, ◌∙◌, subst}
use Rattle.cpi_index.specs.Frozen.{Frozen}
use Rattle.cpi_index.specs.Series.{are_by_series, frozen_serial}
use Rattle.cpi_release.specs.CachedSamples.{AreGroupsOf}
use Rattle.cpi_store.specs.Office.{Office, quotes_of_month, with_releases}
use Rattle.cpi_store.specs.Holders.{Kept}
use Rattle.cpi_store.specs.Sources.{office_sources}
use Rattle.cpi_store.proofs.vec_book.VecBook.read_month.Goals as goal

-- the quotes of one office are those of the same one
moved : (month : ℕ) (o u : Office) (found : List Frozen) → o ≡ u →
    (are_by_series frozen_serial (quotes_of_month month o) ≡ true → found ≡ quotes_of_month month o) →
    are_by_series frozen_serial (quotes_of_month month u) ≡ true → found ≡ quotes_of_month month u
moved month o u found same shown =
    subst (λ v. are_by_series frozen_serial (quotes_of_month month v) ≡ true → found ≡ quotes_of_month month v) same
    shown

pub returns-in_default-clause-shown : goal.returns-in_default-clause-shown
returns-in_default-clause-shown c =
    moved c.args.month (with_releases c.self.inside.releases.items c.self.inside.survey) c.args.self.now.office
    c.in_ok-frozen.frozen.items (ap (λ (k : Kept). k.office) c.self.view_is) c.in_ok-frozen.ensures

pub returns-clause-shown : goal.returns-clause-shown
returns-clause-shown c =
    moved c.args.month (with_releases c.self.inside.releases.items c.self.inside.survey) c.args.self.now.office
    c.in_ok-frozen.frozen.items (ap (λ (k : Kept). k.office) c.self.view_is) c.in_ok-frozen.ensures

pub invariant_of-self : goal.invariant_of-self
invariant_of-self c =
    let o : Office = with_releases c.self.inside.releases.items c.self.inside.survey in
    let made : AreGroupsOf (office_sources o) c.args.month c.in-Ok.groups.items = λ p fit late found.
    c.in-Ok.ensures (office_sources o) c.plan_of-plan.ensures (sym c.deref.ensures.value)
    (sym (c.deref-2.ensures.value ∙ c.in_ok-frozen.ensures (fit.1 c.args.month))) p fit late found in
    record { releases = c.self.invariant.releases; kept = rw c.put.ensures made }
