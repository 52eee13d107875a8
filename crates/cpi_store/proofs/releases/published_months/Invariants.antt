use Rattle.std.proofs.Common.{◌≡◌, map, take}
use Rattle.cpi_release.specs.PublishedTables.{frozen_month_of, published_until}
use Rattle.cpi_store.proofs.releases.published_months.Given as goal

abbrev pub invariant-loop-release : goal.invariant-loop-release
invariant-loop-release l = l.found.items ≡ map frozen_month_of
    (published_until l.until (take l.release-index l.releases))
