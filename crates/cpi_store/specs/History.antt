-- The releases of a sound office: each table is the index of the quotes that were frozen with it and before it.
use Rattle.std.specs.Prelude.{◌≡◌, map}
use Rattle.cpi_release.specs.CachedSamples.{IsFit}
use Rattle.cpi_release.specs.Releasing.{AreSound, all_released, freeze_of}
use Rattle.cpi_store.specs.Office.{Office}
use Rattle.cpi_store.specs.Sources.{office_sources}
use Rattle.cpi_store.specs.Sound.{IsSound}

-- Take what was frozen, month by month, and release it anew, each month by the plan of its year and after those before
-- it: these are the releases that stand. So each table is the chained index of the quotes and weights that were frozen
-- with it and before it.
abbrev pub HasComputedTables : Office → Type 0
HasComputedTables o = o.releases ≡ all_released o.plans (map freeze_of o.releases)

abbrev pub ReleasesAreComputed : Type 0
ReleasesAreComputed = (o : Office) → IsSound o → HasComputedTables o

-- The releases are a sound history besides: month follows month from a December, each but the first has the plan of its
-- year, and a series has one item and one last month in all of them.
abbrev pub ReleasesAreSound : Type 0
ReleasesAreSound = (o : Office) → IsSound o → AreSound o.plans o.releases

-- What the next month is computed from is as the index asks: releases in their order, and the stored quotes of each
-- month by series.
abbrev pub SourcesAreFit : Type 0
SourcesAreFit = (o : Office) → IsSound o → IsFit (office_sources o)
