-- The part of the releases that their headers show, without the rows of their lists.
use Rattle.std.specs.Prelude.{◌≡◌, ℕ, ◌==◌, ◌&&◌, nat_le, Bool, List, Option, Some, filter, map, option_map}
use Rattle.std.specs.List.{list_any}
use Rattle.sqlite.specs.Order.{Row}
use Rattle.sqlite.specs.Tree.{Trees}
use Rattle.cpi_release.specs.Latest.{latest_row}
use Rattle.cpi_release.specs.declared.frozen_month.FrozenMonth.{FrozenMonth}
use Rattle.cpi_sql_rows.specs.declared.release_rows.Header.{Header}
use Rattle.cpi_sql_rows.specs.Lists.{header_in, headers_in, release_number}
use Rattle.cpi_sql_rows.specs.Shelf.{AllStand, AllStandOf}
use Rattle.cpi_sql_rows.specs.Tables.{table_of_releases_2}

-- the headers are those of the rows of the releases, each of which the types take
pub record AreHeadersOf (trees : Trees) (headers : List Header) : Type 0 where
  pub read : headers ≡ headers_in (trees table_of_releases_2.tree)
  pub taken : AllStand header_in (trees table_of_releases_2.tree)

-- the frozen month of a header
abbrev pub header_month : Header → FrozenMonth
header_month h = record { month = h.month; revision = h.revision; publishes = h.publishes }

-- the frozen months of all headers
abbrev pub months_of : List Header → List FrozenMonth
months_of headers = map header_month headers

-- those whose moment of publishing has come
abbrev pub headers_until : ℕ → List Header → List Header
headers_until until headers = filter (λ h. nat_le h.publishes until) headers

-- the frozen months whose moment of publishing has come
abbrev pub months_until : ℕ → List Header → List FrozenMonth
months_until until headers = months_of (headers_until until headers)

-- the header of the latest release of a month
abbrev pub latest_header : ℕ → List Header → Option Header
latest_header month headers = latest_row (λ h. h.month) month headers

-- each row of the month's latest release stands for something, in the table with that tree
abbrev pub LatestStands : {X : Type 0} → (Row → Option X) → ℕ → ℕ → Trees → Type 0
LatestStands entry tree month trees =
    (h : Header) → latest_header month (headers_in (trees table_of_releases_2.tree)) ≡ Some h
    → AllStandOf entry (release_number month h.revision) (trees tree)

-- the latest revision whose moment of publishing has come
abbrev pub latest_revision : ℕ → ℕ → List Header → Option ℕ
latest_revision month until headers = option_map (λ h. h.revision)
    (latest_header month (headers_until until headers))

-- whether there is that release
abbrev pub holds_release : ℕ → ℕ → List Header → Bool
holds_release month revision headers = list_any (λ h. (h.month == month) && (h.revision == revision)) headers

-- whether the month's table is published in that revision
abbrev pub is_header_there : ℕ → ℕ → ℕ → List Header → Bool
is_header_there month revision until headers =
    list_any (λ h. (h.month == month) && ((h.revision == revision) && nat_le h.publishes until)) headers
