-- The statements on the tables of releases: a row added, and the rows of a release dropped.
use Rattle.std.proofs.Common.{◌≡◌, ℕ, ℤ, pos, List, [], ◌∷◌, ◌++◌, Some, None, Option, Result, refl, sym, ◌∙◌}
use Rattle.std.proofs.Common.{subst}
use Rattle.sqlite.specs.declared.types.Value.TheVariants.{Null, Int, Text}
use Rattle.sqlite.specs.Cast.{cast}
use Rattle.sqlite.specs.Kind.TheVariants.{Integer}
use Rattle.sqlite.specs.Values.{bound_value}
use Rattle.sqlite.specs.Edit.{next_rowid}
use Rattle.sqlite.specs.Source.TheVariants.{Values}
use Rattle.sqlite.specs.Order.{Row}
use Rattle.sqlite.specs.State.{State}
use Rattle.cpi_codes.specs.CodeOf.{spelled_code}
use Rattle.cpi_codes.specs.ItemCode.{item_code_of}
use Rattle.cpi_codes.specs.declared.limits.TheConstants.{GREATEST_PRICE, LAST_MOMENT}
use Rattle.cpi_index.specs.Frozen.{Frozen}
use Rattle.cpi_index.specs.Carried.{Carried}
use Rattle.cpi_index.specs.declared.limits.TheConstants.{MOST_INDEX, MOST_LEVEL, MOST_TICKS}
use Rattle.cpi_release.specs.declared.level.Level.{Level}
use Rattle.cpi_sql_rows.specs.declared.release_rows.Header.{Header}
use Rattle.cpi_sql_rows.specs.Tables.{table_of_releases_2, table_of_frozen_2, table_of_carried_2, table_of_levels_2}
use Rattle.cpi_sql_rows.specs.Texts.{add_header_text, add_header_terms}
use Rattle.cpi_sql_rows.specs.Texts.{drop_frozen_text, drop_carried_text, drop_level_text, is_release}
use Rattle.cpi_sql_rows.specs.Lists.{number_within, mark_from, flag_in_value, name_of, spelled_codes}
use Rattle.cpi_sql_rows.specs.Lists.{frozen_in}
use Rattle.cpi_sql_rows.specs.Lists.{carried_in_row, level_in_row, weight_from, whole_or_none}
use Rattle.cpi_sql_rows.specs.ReleaseRows.{annual}
use Rattle.cpi_sql_rows.proofs.Frame.{all_tables_of}
use Rattle.cpi_sql_rows.proofs.ReleaseRows.{release_tested}
use Rattle.cpi_sql_rows.proofs.Texts.{add_header_is, drop_frozen_is, drop_carried_is, drop_level_is}
use Rattle.cpi_sql_rows.proofs.Writing.{cast_int, cast_null}
use Rattle.cpi_sql_writes.specs.Columns.{AreColumns}
use Rattle.cpi_sql_writes.specs.ReleaseSteps.{AreSeriesColumns, is_of_release, IsReleaseNumber, PutsHeader}
use Rattle.cpi_sql_writes.specs.Within.{Changes, Drops, RanStatement, Within}
use Rattle.cpi_sql_rows.proofs.TableRows.{adds_one}
use Rattle.cpi_sql_writes.proofs.TableSteps.{drops_rows}
use Rattle.cpi_sql_writes.proofs.Withins.{within_as}

cast_annual : (y : Option ℤ) → cast Integer (annual y) ≡ annual y
cast_annual None = cast_null
cast_annual (Some z) = cast_int z

annual_read : (y : Option ℤ) → whole_or_none (annual y) ≡ Some y
annual_read None = refl
annual_read (Some z) = refl

pub bound_annual : (y : Option ℤ) → bound_value (annual y) ≡ annual y
bound_annual None = refl
bound_annual (Some z) = refl

-- what the columns of a row stand for
module _ (m v : ℕ) where
  pub frozen_columns : (first : Row) (i k : List ℕ) (w : ℕ) (x : Frozen)
      → AreSeriesColumns m v x.series i x.last_month first → item_code_of i ≡ Some x.item → mark_from k w ≡ Some x.mark
      → AreColumns table_of_frozen_2 frozen_in (IsReleaseNumber m v) x (first ++ Text k ∷ Int (pos w) ∷ [])
  frozen_columns first i k w x series item mark =
      subst (λ columns. AreColumns table_of_frozen_2 frozen_in (IsReleaseNumber m v) x
      (columns ++ Text k ∷ Int (pos w) ∷ [])) (sym series.columns_are) (record {
        stand = λ id number is. rw (is, series.collector, series.slot, item, series.last_is, mark) refl;
        taken = simp (cast_null, cast_int);
        width = refl;
      })

  pub carried_columns : (first : Row) (i : List ℕ) (t n d o u : ℕ) (x : Carried)
      → AreSeriesColumns m v x.series i x.last_month first → item_code_of i ≡ Some x.item
      → number_within 1 MOST_TICKS (Int (pos t)) ≡ Some x.ticks → number_within 1 MOST_TICKS (Int (pos n)) ≡ Some x.knum
      → number_within 1 GREATEST_PRICE (Int (pos d)) ≡ Some x.kden → flag_in_value (Int (pos o)) ≡ Some x.observed
      → flag_in_value (Int (pos u)) ≡ Some x.imputed
      → AreColumns table_of_carried_2 carried_in_row (IsReleaseNumber m v) x
      (first ++ Int (pos t) ∷ Int (pos n) ∷ Int (pos d) ∷ Int (pos o) ∷ Int (pos u) ∷ [])
  carried_columns first i t n d o u x series item ticks knum kden observed imputed =
      subst (λ columns. AreColumns table_of_carried_2 carried_in_row (IsReleaseNumber m v) x
      (columns ++ Int (pos t) ∷ Int (pos n) ∷ Int (pos d) ∷ Int (pos o) ∷ Int (pos u) ∷ []))
      (sym series.columns_are) (record {
        stand = λ id number is. rw (
          is,
          series.collector,
          series.slot,
          item,
          series.last_is,
          ticks,
          knum,
          kden,
          observed,
          imputed,
        ) refl;
        taken = simp (cast_null, cast_int);
        width = refl;
      })

  pub level_columns : (c t : List ℕ) (u : ℕ) (x : Level) → spelled_code c ≡ Some x.code → name_of t ≡ Some x.title
      → weight_from x.code (Int (pos x.weight)) ≡ Some x.weight
      → number_within 1 MOST_INDEX (Int (pos x.within)) ≡ Some x.within
      → number_within 1 MOST_LEVEL (Int (pos x.chained)) ≡ Some x.chained
      → flag_in_value (Int (pos u)) ≡ Some x.imputed
      → AreColumns table_of_levels_2 level_in_row (IsReleaseNumber m v) x (Int (pos m) ∷ Int (pos v) ∷ Text c ∷ Text t
      ∷ Int (pos x.weight) ∷ Int (pos x.within) ∷ Int (pos x.chained) ∷ Int x.month_change
      ∷ annual x.year_change ∷ Int (pos u) ∷ [])
  level_columns c t u x code title weight within chained imputed = record {
    stand = λ id number is. rw (is, code, title, weight, within, chained, annual_read x.year_change, imputed) refl;
    taken = simp (cast_null, cast_int, cast_annual);
    width = refl;
  }

module _ {A E : Type 0} (old new : State) (result : Result A E) (m v : ℕ) where
  abbrev key : Row
  key = Int (pos m) ∷ Int (pos v) ∷ []

  pub frozen_dropped : Within old new result (RanStatement drop_frozen_text key)
      → Within old new result (Changes table_of_frozen_2.tree (Drops (is_of_release m v)))
  frozen_dropped ran = drops_rows table_of_frozen_2 16 refl drop_frozen_text key old new result ran is_release
      (is_of_release m v) drop_frozen_is (λ r. release_tested r m v) (λ db. refl)

  pub carried_dropped : Within old new result (RanStatement drop_carried_text key)
      → Within old new result (Changes table_of_carried_2.tree (Drops (is_of_release m v)))
  carried_dropped ran = drops_rows table_of_carried_2 17 refl drop_carried_text key old new result ran is_release
      (is_of_release m v) drop_carried_is (λ r. release_tested r m v) (λ db. refl)

  pub level_dropped : Within old new result (RanStatement drop_level_text key)
      → Within old new result (Changes table_of_levels_2.tree (Drops (is_of_release m v)))
  level_dropped ran = drops_rows table_of_levels_2 18 refl drop_level_text key old new result ran is_release
      (is_of_release m v) drop_level_is (λ r. release_tested r m v) (λ db. refl)

  pub header_added : (c : List ℕ) (h : Header) → number_within 0 LAST_MOMENT (Int (pos h.frozen_at)) ≡ Some h.frozen_at
      → number_within 0 LAST_MOMENT (Int (pos h.publishes)) ≡ Some h.publishes → spelled_codes c ≡ Some h.carry
      → Within old new result (RanStatement add_header_text
      (key ++ Int (pos h.frozen_at) ∷ Int (pos h.publishes) ∷ Text c ∷ []))
      → Within old new result (PutsHeader m v h)
  header_added c h frozen published carry ran =
      let columns = key ++ Int (pos h.frozen_at) ∷ Int (pos h.publishes) ∷ Text c ∷ [] in
      within_as old new result (RanStatement add_header_text columns) (PutsHeader m v h) ran
      (λ inside run schema month revision.
      let done = (adds_one table_of_releases_2 15 refl columns (Values add_header_terms 6) (Null ∷ columns)
      (λ db. Int (next_rowid (db table_of_releases_2.tree)) ∷ columns) (λ limit db rows h. h.1)
      (λ db. simp (cast_null, cast_int)) add_header_text add_header_is).ran old new run.0 schema run.1 in
      record {
        inside = done.1 ∙ inside;
        schema = done.0.schema;
        all = λ _. all_tables_of new.now done.0.schema done.2;
        rows = record {
          row = Int (next_rowid (old.now.trees table_of_releases_2.tree)) ∷ columns;
          is = rw (month, revision, frozen, published, carry) refl;
          rows = done.0.rows;
          kept = done.0.kept;
        };
        others = done.0.others;
      })
