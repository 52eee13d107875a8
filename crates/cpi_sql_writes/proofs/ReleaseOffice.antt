-- The rows of a release written, as a change of the office.
use Rattle.std.proofs.Common.{◌≡◌, ◌≢◌, ◌≤◌, ℕ, List, [], ◌∷◌, map, Some, None, refl, ap, ◌∙◌}
use Rattle.std.specs.Cmp.{tied_itself}
use Rattle.std.specs.declared.cmp.Ordering.TheVariants.{Equal}
use Rattle.std.proofs.lemmas.Cmp.{nat_cmp_total}
use Rattle.sqlite.specs.Order.{Row, column}
use Rattle.sqlite.specs.Tree.{Trees}
use Rattle.sqlite.specs.State.{State}
use Rattle.sqlite_rules.specs.Lists.{Has}
use Rattle.sqlite_rules.proofs.ProbeLemmas.{mapped_has}
use Rattle.cpi_codes.specs.contracts.codes.CodeOrd.TheImpl.Laws.{total-law}
use Rattle.cpi_rows.specs.Keyed.{with_row, row_at}
use Rattle.cpi_index.specs.Carried.{Carried}
use Rattle.cpi_index.specs.Frozen.{Frozen}
use Rattle.cpi_index.specs.Series.{frozen_serial, carried_serial}
use Rattle.cpi_release.specs.declared.level.Level.{Level}
use Rattle.cpi_release.specs.declared.release.Release.{Release}
use Rattle.cpi_release.specs.FrozenMonths.{release_cmp, release_key}
use Rattle.cpi_store.specs.Office.{Freezes}
use Rattle.cpi_store.proofs.Released.{release_total}
use Rattle.cpi_sql_rows.specs.declared.release_rows.Header.{Header}
use Rattle.cpi_sql_rows.specs.Lists.{header_in, frozen_in, carried_in_row, level_in_row, headers_in, frozens_in}
use Rattle.cpi_sql_rows.specs.Lists.{carrieds_in}
use Rattle.cpi_sql_rows.specs.Lists.{levels_in, office_in, month_at, release_from, releases_in, header_key}
use Rattle.cpi_sql_rows.specs.Lists.{release_number}
use Rattle.cpi_sql_rows.specs.ReleaseRows.{frozen_after, carried_after, level_after}
use Rattle.cpi_sql_writes.specs.ReleaseSteps.{header_of, FitsTables, IsHeaderStep, ListsStand, ReplacesList}
use Rattle.cpi_sql_rows.specs.Tables.{table_of_frozen_2, table_of_carried_2, table_of_levels_2}
use Rattle.cpi_sql_writes.specs.Rest.{KeepsAll, KeepsRest, MakesOnly}
use Rattle.cpi_sql_rows.specs.Shelf.{HasTables}
use Rattle.cpi_sql_rows.specs.Steps.{IsRowStep, SameBut, outside}
use Rattle.cpi_sql_rows.proofs.Frame as tables
use Rattle.cpi_sql_rows.proofs.Frame.{Headers, Levels, row_written}
use Rattle.cpi_sql_rows.proofs.FoundReleases.{header_names}
use Rattle.cpi_sql_rows.proofs.Inserting.{inserted, none_apart}
use Rattle.cpi_sql_rows.proofs.Listed.{PutsRow, listed_put, listed_stands}
use Rattle.cpi_sql_writes.proofs.Kept.{all_kept}
use Rattle.cpi_sql_writes.proofs.Beside.{tables_written}
use Rattle.cpi_sql_writes.proofs.MappedPut.{map_put}
use Rattle.cpi_sql_rows.proofs.ReleaseRows.{one_release, within_limits}
use Rattle.cpi_sql_writes.proofs.ReleaseReplaced.{release_kept, release_replaced, release_stands}
use Rattle.cpi_sql_writes.proofs.Replaced.{Replaced}
use Rattle.cpi_sql_rows.proofs.Unchanged.{same_then}

-- the release of a header, as the tables have it
abbrev from_tables : Trees → Header → Release
from_tables trees = release_from (frozens_in (trees 28)) (carrieds_in (trees 30)) (levels_in (trees 32))

-- the revision of a header is from 1 to 9
header_range : (row : Row) (h : Header) → header_in row ≡ Some h → (1 ≤ h.revision) × (h.revision ≤ 9)
header_range row h e = within_limits 1 9 (column row 2) h.revision (header_names row h e).revision

-- the steps, one after the other; the columns and the lists are the release's
module _ (r : Release) (fits : FitsTables r) (m v : ℕ) (is : month_at m ≡ Some r.month) (at_revision : v ≡ r.revision)
    (frozen : List Frozen) (carried : List Carried) (levels : List Level) (at_frozen : frozen ≡ r.frozen)
    (at_carried : carried ≡ r.carried) (at_levels : levels ≡ r.levels) (a b c d e : State)
    (has : HasTables (outside a))
    (none : row_at release_cmp release_key (r.month, r.revision) (releases_in a.now.trees) ≡ None)
    (one : IsHeaderStep (header_of r) a b)
    (two : IsRowStep table_of_frozen_2.tree (ReplacesList frozen_after m v frozen) b c)
    (three : IsRowStep table_of_carried_2.tree (ReplacesList carried_after m v carried) c d)
    (four : IsRowStep table_of_levels_2.tree (ReplacesList level_after m v levels) d e) where
  abbrev number : ℕ
  number = release_number r.month r.revision

  range : (1 ≤ r.revision) × (r.revision ≤ 9)
  range = header_range one.rows.row (header_of r) one.rows.is

  -- each list replaces the release's former rows
  frozen_put : ReplacesList frozen_after m r.revision r.frozen (a.now.trees 28) (e.now.trees 28)
  frozen_put =
      rw (← at_revision, ← at_frozen, four.others 28 refl, three.others 28 refl, ← one.others 28 refl) two.rows

  carried_put : ReplacesList carried_after m r.revision r.carried (a.now.trees 30) (e.now.trees 30)
  carried_put =
      rw (← at_revision, ← at_carried, four.others 30 refl, ← one.others 30 refl, ← two.others 30 refl) three.rows

  levels_put : ReplacesList level_after m r.revision r.levels (a.now.trees 32) (e.now.trees 32)
  levels_put =
      rw (← at_revision, ← at_levels, ← one.others 32 refl, ← two.others 32 refl, ← three.others 32 refl) four.rows

  lists_stand : ListsStand r e.now.trees
  lists_stand = record {
    frozen = release_stands frozen_after m r.month r.revision is range.0 range.1 r.frozen _ _ frozen_put;
    carried = release_stands carried_after m r.month r.revision is range.0 range.1 r.carried _ _ carried_put;
    levels = release_stands level_after m r.month r.revision is range.0 range.1 r.levels _ _ levels_put;
  }

  frozen_rows : Replaced nat_cmp_total frozen_serial frozen_in number r.frozen (a.now.trees 28) (e.now.trees 28)
  frozen_rows = release_replaced frozen_after m r.month r.revision is range.0 range.1 nat_cmp_total frozen_serial
      r.frozen _ _ has.releases.frozen fits.frozen frozen_put

  carried_rows : Replaced nat_cmp_total carried_serial carried_in_row number r.carried (a.now.trees 30) (e.now.trees 30)
  carried_rows = release_replaced carried_after m r.month r.revision is range.0 range.1 nat_cmp_total carried_serial
      r.carried _ _ has.releases.carried fits.carried carried_put

  level_rows : Replaced total-law (λ (l : Level). l.code) level_in_row number r.levels (a.now.trees 32) (e.now.trees 32)
  level_rows = release_replaced level_after m r.month r.revision is range.0 range.1 total-law (λ (l : Level). l.code)
      r.levels _ _ has.releases.levels fits.levels levels_put

  -- no header in the table is the release's
  headers_apart : (h : Header) → Has (headers_in (a.now.trees 26)) h
      → release_cmp (header_key h) (r.month, r.revision) ≢ Equal
  unfolding releases_in
  headers_apart h there same =
      none_apart release_cmp release_key (r.month, r.revision) (releases_in a.now.trees) (from_tables a.now.trees h)
      none (mapped_has (from_tables a.now.trees) (headers_in (a.now.trees 26)) h there) same

  numbers_apart : (h : Header) → Has (headers_in (a.now.trees 26)) h → release_number h.month h.revision ≢ number
  numbers_apart h there same =
      let it = listed_stands release_total header_key header_in (a.now.trees 26) h there in
      let theirs = header_range it.0 h it.2 in
      let both = one_release h.month h.revision r.month r.revision theirs.0 theirs.1 range.0 range.1 same in
      headers_apart h there (rw (both.0, both.1) (tied_itself release_total (r.month, r.revision)))

  headers_same : e.now.trees 26 ≡ b.now.trees 26
  headers_same = four.others 26 refl ∙ three.others 26 refl ∙ two.others 26 refl

  header_put : PutsRow release_total header_key header_in (header_of r) (a.now.trees 26) (e.now.trees 26)
  header_put = rw headers_same (inserted release_total header_key header_in (header_of r) (a.now.trees 26)
      (b.now.trees 26) one.rows.row one.rows.is one.rows.rows one.rows.kept has.releases.releases headers_apart)

  -- the release is read as it was written, and the others as before
  made_here : from_tables e.now.trees (header_of r) ≡ r
  made_here = rw (frozen_rows.here, carried_rows.here, level_rows.here) refl

  made_there : (h : Header) → Has (headers_in (a.now.trees 26)) h
      → from_tables e.now.trees h ≡ from_tables a.now.trees h
  made_there h there =
      let n = release_number h.month h.revision in
      let apart = numbers_apart h there in
      rw (frozen_rows.there n apart, carried_rows.there n apart, level_rows.there n apart) refl

  releases_now : releases_in e.now.trees ≡ with_row release_cmp release_key r (releases_in a.now.trees)
  unfolding releases_in
  releases_now =
      ap (λ hs. map (from_tables e.now.trees) hs) (listed_put release_total header_key header_in (header_of r)
      (a.now.trees 26) (e.now.trees 26) has.releases.releases header_put)
      ∙ map_put release_cmp header_key release_cmp release_key (from_tables a.now.trees) (from_tables e.now.trees)
      (header_of r) r (headers_in (a.now.trees 26)) made_here (λ h. refl) made_there

  same : SameBut (26 ∷ 28 ∷ 30 ∷ 32 ∷ []) a.now.trees e.now.trees
  same = same_then (26 ∷ []) (28 ∷ 30 ∷ 32 ∷ []) a.now.trees b.now.trees e.now.trees one.others
      (same_then (28 ∷ []) (30 ∷ 32 ∷ []) b.now.trees c.now.trees e.now.trees two.others
      (same_then (30 ∷ []) (32 ∷ []) c.now.trees d.now.trees e.now.trees three.others four.others))

  headers_kept : KeepsAll (a.now.trees 26) (e.now.trees 26)
  headers_kept = rw headers_same (all_kept _ _ one.rows.kept)

  -- the rows of other releases are there
  rest : KeepsRest (Freezes r) a.now.trees e.now.trees
  rest = (
    headers_kept,
    release_kept frozen_after m r.month r.revision is range.0 range.1 r.frozen _ _ frozen_put,
    release_kept carried_after m r.month r.revision is range.0 range.1 r.carried _ _ carried_put,
    release_kept level_after m r.month r.revision is range.0 range.1 r.levels _ _ levels_put,
  )

  release_done : MakesOnly (Freezes r) (outside a) (outside e)
  unfolding releases_in
  release_done = tables_written (Freezes r) (outside a) (outside e) has four.schema refl
      (four.all (three.all (two.all (one.all has.office.tables))))
      (Headers ∷ tables.Frozen ∷ tables.Carried ∷ Levels ∷ []) refl same (
        row_written release_total header_key header_in (header_of r) (a.now.trees 26) (e.now.trees 26) header_put,
        (
          frozen_rows.written (rw (four.others 28 refl, three.others 28 refl) two.rowids),
          (
            carried_rows.written (rw (four.others 30 refl) three.rowids),
            (level_rows.written four.rowids, tt),
          ),
        ),
      ) (ap (λ releases. record (office_in a.now.trees) { releases = releases }) releases_now) rest

  -- the change of the office, and what it leaves
  pub release_put : MakesOnly (Freezes r) (outside a) (outside e) × ListsStand r e.now.trees
  release_put = (release_done, lists_stand)
