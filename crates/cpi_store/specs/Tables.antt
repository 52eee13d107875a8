-- The table that is lent to whoever asks for it.
use Rattle.std.specs.Prelude.{ℕ, ◌==◌, ◌&&◌, nat_le, Bool, List, Option}
use Rattle.cpi_release.specs.PublishedTables.{PublishedTable, asked_table, is_asked, published_until}
use Rattle.cpi_release.specs.declared.release.Release.{Release}

-- the table that is asked for, among those that are published by the moment
abbrev pub table_until : ℕ → Option ℕ → ℕ → List Release → Option PublishedTable
table_until month revision until releases = asked_table month revision (published_until until releases)

-- whether a release is the one that is asked for
abbrev pub is_wanted : ℕ → Option ℕ → ℕ → Release → Bool
is_wanted month revision until r = nat_le r.publishes until && is_asked revision r.revision && r.month == month
