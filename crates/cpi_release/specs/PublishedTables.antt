-- Which tables are published at a moment, and how one is printed.
use Rattle.std.specs.Prelude.{ℕ, ◌==◌, nat_le, Bool, true, List, Option, None, Some, map, filter}
use Rattle.cpi_release.specs.TextTable.{text_table}
use Rattle.cpi_release.specs.CsvTable.{csv_table}
use Rattle.cpi_release.specs.Latest.{latest_row}
use Rattle.cpi_release.specs.FrozenMonths.{ReleaseKey}
use Rattle.cpi_release.specs.declared.level.Level.{Level}
use Rattle.cpi_release.specs.declared.release.Release.{Release}
use Rattle.cpi_release.specs.declared.frozen_month.FrozenMonth.{FrozenMonth}
use Rattle.cpi_release.specs.declared.form.Form.{Form}
use Rattle.cpi_release.specs.declared.form.Form.TheVariants.{Text, Csv}

pub record PublishedTable : Type 0 where
  pub month : ℕ
  pub revision : ℕ
  pub publishes : ℕ
  pub levels : List Level

abbrev pub published_table : Release → PublishedTable
published_table r = record {
  month = r.month;
  revision = r.revision;
  publishes = r.publishes;
  levels = r.levels;
}

abbrev pub published_key : PublishedTable → ReleaseKey
published_key t = (t.month, t.revision)

-- the tables whose moment of publishing has come
abbrev pub published_until : ℕ → List Release → List PublishedTable
published_until now releases = map published_table (filter (λ r. nat_le r.publishes now) releases)

-- a table without its rows
abbrev pub frozen_month_of : PublishedTable → FrozenMonth
frozen_month_of t = record { month = t.month; revision = t.revision; publishes = t.publishes }

-- ---- the table that is asked for: of a month in one revision, or, if none is named, in the latest
abbrev pub is_asked : Option ℕ → ℕ → Bool
is_asked None revision = true
is_asked (Some asked) revision = revision == asked

abbrev pub asked_table : ℕ → Option ℕ → List PublishedTable → Option PublishedTable
asked_table month revision tables = latest_row (λ t. t.month) month (filter (λ t. is_asked revision t.revision) tables)

abbrev pub printed_bytes : Form → ℕ → ℕ → List Level → List ℕ
printed_bytes Text month revision levels = text_table month revision levels
printed_bytes Csv month revision levels = csv_table levels
