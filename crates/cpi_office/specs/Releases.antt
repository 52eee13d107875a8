-- Releases over whole runs: a release never changes.
use Rattle.std.specs.Prelude.{◌≡◌, List, Some}
use Rattle.cpi_rows.specs.Keyed.{row_at}
use Rattle.cpi_release.specs.FrozenMonths.{ReleaseKey, release_cmp, release_key}
use Rattle.cpi_release.specs.declared.release.Release.{Release}
use Rattle.cpi_store.specs.Office.{Office}
use Rattle.cpi_store.specs.Sound.{IsSound}
use Rattle.cpi_office.specs.Runs.{after}
use Rattle.cpi_office.specs.declared.request.Ask.{Ask}

-- each release of the office before is in the office afterwards, with its quotes, its carry list and its table
abbrev pub KeepsReleases : Office → Office → Type 0
KeepsReleases before afterwards =
    (key : ReleaseKey) (r : Release) →
    row_at release_cmp release_key key before.releases ≡ Some r →
    row_at release_cmp release_key key afterwards.releases ≡ Some r

-- whatever is asked, a release stays as it was frozen
abbrev pub ReleasesStay : Type 0
ReleasesStay = (asks : List Ask) (o : Office) → IsSound o → KeepsReleases o (after asks o)
