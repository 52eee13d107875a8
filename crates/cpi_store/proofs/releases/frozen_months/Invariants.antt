use Rattle.std.proofs.Common.{◌≡◌, take}
use Rattle.cpi_release.specs.FrozenMonths.{frozen_months}
use Rattle.cpi_store.proofs.releases.frozen_months.Given as goal

abbrev pub invariant-loop-release : goal.invariant-loop-release
invariant-loop-release l = l.found.items ≡ frozen_months (take l.release-index l.releases)
