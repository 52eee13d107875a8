-- The caches of a book over a database: what it read of the tables, from rows that the types took.
use Rattle.std.specs.Prelude.{Bool, List, Option, IsTrue}
use Rattle.sqlite.specs.State.{State}
use Rattle.sqlite.specs.Tree.{Trees}
use Rattle.cpi_release.specs.CachedSamples.{Samples}
use Rattle.cpi_store.specs.Office.{Office}
use Rattle.cpi_sql_rows.specs.declared.release_rows.Header.{Header}
use Rattle.cpi_sql_rows.specs.Shelf.{HasTables, IsCleanBook, IsSurveyOf}
use Rattle.cpi_sql_reads.specs.Headers.{AreHeadersOf}
use Rattle.cpi_sql_reads.specs.CachedLists.{AreListsCached}
use Rattle.cpi_sql_reads.specs.Samples.{AreSamplesOf}
use Rattle.cpi_sql_reads.specs.declared.cached_lists.CachedLists.{CachedLists}

-- the survey and the headers of the releases, if they were read; lists of releases; and the samples of the month that
-- is being frozen
pub record Caches : Type 0 where
  pub is_read : Bool
  pub survey : Office
  pub has_headers : Bool
  pub headers : List Header
  pub lists : CachedLists
  pub samples : Option Samples

-- the caches are what the tables contain
pub record AreOf (trees : Trees) (c : Caches) : Type 0 where
  pub survey : IsTrue c.is_read → IsSurveyOf trees c.survey
  pub headers : IsTrue c.has_headers → AreHeadersOf trees c.headers
  pub lists : AreListsCached trees c.lists
  pub samples : AreSamplesOf trees c.samples

-- the tables are the office's, and the caches are what they contain
pub record Stands (s : State) (c : Caches) : Type 0 where
  pub tables : HasTables s
  pub cached : AreOf s.now.trees c

-- if the store is clean, the caches are what the tables contain
abbrev pub AreCachesSound : State → Caches → Type 0
AreCachesSound s c = IsCleanBook s → Stands s c
