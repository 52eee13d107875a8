use Rattle.std.proofs.Common.{sym}
use Rattle.cpi_release.specs.CachedSamples.{AreGroupsOf}
use Rattle.cpi_release.proofs.cached_samples.CachedSamples.keep.Goals as goal

pub returns-clause-rows : goal.returns-clause-rows
returns-clause-rows c = λ s plan made fit late.
    let lent : AreGroupsOf s c.args.month c.deref.result.now = rw (sym c.deref.ensures.value) at made in
    c.in_ok-rows.ensures s plan lent fit late
