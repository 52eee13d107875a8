-- The steps of putting a release, on the rows of its tables.
use Rattle.std.specs.Prelude.{◌≡◌, ◌&&◌, ℕ, pos, Bool, List, [], ◌∷◌, Option, Some, None, IsTrue}
use Rattle.std.specs.Ordering.{nat_cmp}
use Rattle.sqlite.specs.declared.types.Value.TheVariants.{Int, Text}
use Rattle.sqlite.specs.Order.{Row, column}
use Rattle.sqlite.specs.Tree.{put_row, Trees}
use Rattle.sqlite.specs.State.{State}
use Rattle.sqlite_rules.specs.Lists.{Has}
use Rattle.cpi_codes.specs.CodeOrder.{code_cmp}
use Rattle.cpi_codes.specs.declared.series.SeriesId.{SeriesId}
use Rattle.cpi_rows.specs.Keyed.{IsInOrder, row_at}
use Rattle.cpi_codes.specs.declared.limits.TheConstants.{GREATEST_SLOT, GREATEST_COLLECTOR}
use Rattle.cpi_index.specs.Series.{frozen_serial, carried_serial}
use Rattle.cpi_release.specs.declared.release.Release.{Release}
use Rattle.cpi_release.specs.FrozenMonths.{release_cmp, release_key}
use Rattle.cpi_store.specs.Office.{Office}
use Rattle.cpi_sql_rows.specs.declared.release_rows.Header.{Header}
use Rattle.cpi_sql_rows.specs.Tables.{table_of_carried_2, table_of_frozen_2, table_of_levels_2, office_schema}
use Rattle.cpi_sql_rows.specs.Tables.{table_of_releases_2}
use Rattle.cpi_sql_rows.specs.Lists.{and_then, month_at, release_from_key, revision_from, header_in, release_number}
use Rattle.cpi_sql_rows.specs.Lists.{carried_in_row, frozen_in, level_in_row, number_within}
use Rattle.cpi_sql_rows.specs.Shelf.{AllStandOf, equals}
use Rattle.cpi_sql_rows.specs.Making.{HasAllTables}
use Rattle.cpi_sql_rows.specs.Steps.{SameBut}
use Rattle.cpi_sql_writes.specs.Within.{Replaces}

-- whether a row is one of the release; its month is written as a column has it
abbrev pub is_of_release : ℕ → ℕ → Row → Bool
is_of_release month revision r = equals (column r 1) (Int (pos month)) && equals (column r 2) (Int (pos revision))

-- the number of the release that these columns stand for
abbrev pub IsReleaseNumber : ℕ → ℕ → ℕ → Type 0
IsReleaseNumber month revision number = release_from_key (Int (pos month)) (Int (pos revision)) ≡ Some number

-- the columns that a row of a series begins with in a release; the code of the item is a text
pub record AreSeriesColumns (month revision : ℕ) (series : SeriesId) (item : List ℕ) (last_month : ℕ) (columns : Row)
    : Type 0 where
  pub collector : number_within 1 GREATEST_COLLECTOR (Int (pos series.collector)) ≡ Some series.collector
  pub slot : number_within 1 GREATEST_SLOT (Int (pos series.slot)) ≡ Some series.slot
  pub last : ℕ
  pub last_is : month_at last ≡ Some last_month
  pub columns_are : columns ≡ Int (pos month) ∷ Int (pos revision) ∷ Int (pos series.collector)
      ∷ Int (pos series.slot) ∷ Text item ∷ Int (pos last) ∷ []

-- the value that a row stands for, with the release that it begins with
abbrev pub beside_release : {X : Type 0} → (Row → Option X) → Row → Option (ℕ × X)
beside_release from r =
    and_then (release_from_key (column r 1) (column r 2)) (λ n. and_then (from r) (λ x. Some (n, x)))

-- the rows of the release are dropped, and those of the list added
abbrev pub ReplacesList : {X : Type 0} → (Row → Option X) → ℕ → ℕ → List X → List Row → List Row → Type 0
ReplacesList from month revision =
    Replaces (beside_release from) (is_of_release month revision) (IsReleaseNumber month revision)

-- the row of the header is added
pub record AddsHeader (h : Header) (old new : List Row) : Type 0 where
  pub row : Row
  pub is : header_in row ≡ Some h
  pub rows : new ≡ put_row row old
  pub kept : (r : Row) → Has old r → Has new r

-- the step that adds it
pub record IsHeaderStep (h : Header) (old new : State) : Type 0 where
  pub inside : IsTrue new.in_transaction
  pub schema : new.now.schema ≡ office_schema
  pub all : HasAllTables old.now.trees → HasAllTables new.now.trees
  pub rows : AddsHeader h (old.now.trees table_of_releases_2.tree) (new.now.trees table_of_releases_2.tree)
  pub others : SameBut (table_of_releases_2.tree ∷ []) old.now.trees new.now.trees

-- the header is added, if its columns are these
abbrev pub PutsHeader : ℕ → ℕ → Header → State → State → Type 0
PutsHeader month revision h old new = old.now.schema ≡ office_schema → month_at month ≡ Some h.month
    → revision_from (Int (pos revision)) ≡ Some h.revision → IsHeaderStep h old new

-- the header of a release: all but its lists
abbrev pub header_of : Release → Header
header_of r = record {
  month = r.month;
  revision = r.revision;
  frozen_at = r.frozen_at;
  publishes = r.publishes;
  carry = r.carry;
}

-- no release of its month has its revision
abbrev pub IsNewRevision : Release → Office → Type 0
IsNewRevision r office = row_at release_cmp release_key (r.month, r.revision) office.releases ≡ None

-- the tables can take it: its lists are strictly in the order of their keys, as reads give them
pub record FitsTables (r : Release) : Type 0 where
  pub frozen : IsInOrder nat_cmp frozen_serial r.frozen
  pub carried : IsInOrder nat_cmp carried_serial r.carried
  pub levels : IsInOrder code_cmp (λ l. l.code) r.levels

-- the types take each row of the release's lists
pub record ListsStand (r : Release) (trees : Trees) : Type 0 where
  pub frozen : AllStandOf frozen_in (release_number r.month r.revision) (trees table_of_frozen_2.tree)
  pub carried : AllStandOf carried_in_row (release_number r.month r.revision) (trees table_of_carried_2.tree)
  pub levels : AllStandOf level_in_row (release_number r.month r.revision) (trees table_of_levels_2.tree)
