-- The list of a release: its frozen quotes, its carried prices, or its table.
use Rattle.std.specs.Prelude.{◌≡◌, ℕ, IfSome, List, [], Option, Some, None, false}
use Rattle.std.specs.List.{AllByRecursion}
use Rattle.std.specs.Option.{option_map_or}
use Rattle.sqlite.specs.Tree.{Trees}
use Rattle.cpi_rows.specs.Keyed.{row_at}
use Rattle.cpi_release.specs.FrozenMonths.{ReleaseKey, release_cmp, release_key}
use Rattle.cpi_release.specs.Releases.{latest_release}
use Rattle.cpi_release.specs.declared.release.Release.{Release}
use Rattle.cpi_sql_rows.specs.HeldTables.{HeldTable, row_with_holder, release_in}
use Rattle.cpi_sql_rows.specs.Lists.{release_number, releases_in}
use Rattle.cpi_sql_rows.specs.Shelf.{AllStandOf}
use Rattle.cpi_sql_rows.specs.Texts.{is_release}
use Rattle.cpi_sql_rows.specs.declared.release_rows.Header.{Header}
use Rattle.cpi_sql_reads.specs.Headers.{LatestStands, holds_release}

-- the rows of a list of a release
pub record ReleaseList (X : Type 0) : Type 0 where
  pub month : ℕ
  pub revision : ℕ
  pub rows : List X

-- the month and the revision of its release
abbrev pub list_key : {X : Type 0} → ReleaseList X → ReleaseKey
list_key l = (l.month, l.revision)

-- it is that of the release, or there is no such release
abbrev pub IsListOfRelease : {X : Type 0} → ReleaseKey → List Header → Option (ReleaseList X) → Type 0
IsListOfRelease key headers (Some l) = list_key l ≡ key
IsListOfRelease key headers None = holds_release key.0 key.1 headers ≡ false

-- a table, and what a release lists of its rows
module _ {X : Type 0} (table : HeldTable X is_release) (listed_by : Release → List X) (trees : Trees) where
  -- it is the list of its release, each of whose rows the types take
  pub record IsListOf (l : ReleaseList X) : Type 0 where
    pub release : Release
    pub there : row_at release_cmp release_key (list_key l) (releases_in trees) ≡ Some release
    pub rows : l.rows ≡ listed_by release
    pub stand : AllStandOf (row_with_holder release_in table.after) (release_number l.month l.revision)
        (trees table.tree)

  -- each is so
  abbrev pub AreListsOf : List (ReleaseList X) → Type 0
  AreListsOf lists = AllByRecursion IsListOf lists

  -- it is the list of the month's latest release, each of whose rows the types take; none if the month has no release
  pub record IsLatest (month : ℕ) (found : Option (ReleaseList X)) : Type 0 where
    pub rows : option_map_or (λ l. l.rows) found []
        ≡ option_map_or listed_by (latest_release (releases_in trees) month) []
    pub list : IfSome found IsListOf
    pub stand : LatestStands (row_with_holder release_in table.after) table.tree month trees
