use Rattle.std.proofs.Common.{rules, ◌≡◌, sym}
use Rattle.cpi_release.specs.CachedSamples.{AreGroupsOf}
use Rattle.cpi_release.proofs.cached_samples.CachedSamples.rows.Goals as goal

pub returns-clause-rows : goal.returns-clause-rows
returns-clause-rows c = λ s plan kept fit late.
    let month : c.in-Some.kept.month ≡ c.args.month = search rules in
    let held : AreGroupsOf s c.in-Some.kept.month c.in-Some.kept.groups.items =
    rw (← c.self.view_is, c.in-Some.is) at kept in
    let lent : AreGroupsOf s c.args.month c.deref.result.now = rw (month, sym c.deref.ensures.value) at held in
    c.in_ok-rows.ensures s plan lent fit late
