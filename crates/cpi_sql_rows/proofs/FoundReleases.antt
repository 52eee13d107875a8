-- The tables of releases that were found: UNIQUE leaves no two rows of one key.
use Rattle.std.proofs.Common.{◌≡◌, ℕ, ◌≤◌, pos, List, [], ◌∷◌, Some, Option, refl, sym, ap, ◌∙◌, arith}
use Rattle.std.specs.Ordering.{nat_cmp}
use Rattle.std.specs.declared.cmp.Ordering.{Ordering}
use Rattle.sqlite.specs.declared.types.Value.TheVariants.{Int, Text}
use Rattle.sqlite.specs.Order.{Row, column}
use Rattle.sqlite.specs.Tree.{Trees}
use Rattle.sqlite_catalog.specs.Listing.{IsSound}
use Rattle.sqlite_schema.specs.declared.schema.Constraint.TheVariants.{Unique}
use Rattle.cpi_codes.specs.CodeOrder.{code_cmp}
use Rattle.cpi_codes.specs.CodeText.{code_text}
use Rattle.cpi_codes.specs.declared.limits.TheConstants.{GREATEST_COLLECTOR, GREATEST_SLOT, LAST_MOMENT}
use Rattle.cpi_codes.specs.declared.series.SeriesId.{SeriesId}
use Rattle.cpi_rows.specs.Held.{held_cmp, held_key}
use Rattle.cpi_rows.proofs.Truth.{equal_of_order, then_first, then_second}
use Rattle.cpi_index.specs.declared.limits.TheConstants.{MOST_INDEX, MOST_LEVEL}
use Rattle.cpi_index.specs.Frozen.{Frozen}
use Rattle.cpi_index.specs.Carried.{Carried}
use Rattle.cpi_index.specs.Series.{serial, frozen_serial, carried_serial}
use Rattle.cpi_release.specs.declared.level.Level.{Level}
use Rattle.cpi_release.specs.FrozenMonths.{release_cmp}
use Rattle.cpi_sql_rows.specs.declared.release_rows.Header.{Header}
use Rattle.cpi_sql_rows.specs.Tables.{office_schema, table_of_releases_2, table_of_frozen_2, table_of_carried_2}
use Rattle.cpi_sql_rows.specs.Tables.{table_of_levels_2}
use Rattle.cpi_sql_rows.specs.Lists.{number_within, month_from, item_from, mark_in, name_from, revision_from}
use Rattle.cpi_sql_rows.specs.Lists.{codes_from}
use Rattle.cpi_sql_rows.specs.Lists.{header_in, header_key}
use Rattle.cpi_sql_rows.specs.Lists.{code_from, flag_in_value, change_in, weight_from, whole_or_none, priced_from}
use Rattle.cpi_sql_rows.specs.Lists.{frozen_in, carried_in_row, level_in_row}
use Rattle.cpi_sql_rows.specs.ReleaseRows.{frozen_after, carried_after, level_after}
use Rattle.cpi_sql_rows.specs.Shelf.{IsKeyed, HasRowids}
use Rattle.cpi_sql_rows.proofs.KeyColumns.{Tells, keyed}
use Rattle.cpi_sql_rows.proofs.Lists.{bound_is, held_tied, ranged_is, some_is}
use Rattle.cpi_sql_rows.proofs.QuoteOffice.{HasMonth, month_of, same_month}
use Rattle.cpi_sql_rows.proofs.ReleaseRows.{beside, one_release, release_entry, release_of, within_limits}
use Rattle.cpi_sql_rows.proofs.FoundPlans.{code_column, one_code}

-- ---- series by their numbers

-- the columns of the series of a row
record HasSeries (r : Row) (s : SeriesId) : Type 0 where
  pub collector : column r 3 ≡ Int (pos s.collector)
  pub slot : column r 4 ≡ Int (pos s.slot)
  pub least : 1 ≤ s.collector
  pub first : 1 ≤ s.slot
  pub last : s.slot ≤ GREATEST_SLOT

series_of : (r : Row) (s : SeriesId) → number_within 1 GREATEST_COLLECTOR (column r 3) ≡ Some s.collector
    → number_within 1 GREATEST_SLOT (column r 4) ≡ Some s.slot
    → HasSeries r s
series_of r s c t =
    let low = within_limits 1 GREATEST_COLLECTOR (column r 3) s.collector c in
    let slots = within_limits 1 GREATEST_SLOT (column r 4) s.slot t in
    record {
      collector = ranged_is 1 GREATEST_COLLECTOR (column r 3) s.collector c;
      slot = ranged_is 1 GREATEST_SLOT (column r 4) s.slot t;
      least = low.0;
      first = slots.0;
      last = slots.1;
    }

-- the series of a row is told by two of its columns
series_tells : {X : Type 0} (from : Row → Option X) (series : X → SeriesId)
    → ((r : Row) (x : X) → from r ≡ Some x → HasSeries r (series x))
    → Tells nat_cmp (λ x. serial (series x)) from (3 ∷ 4 ∷ [])
series_tells from series of = record {
  told = λ r x e.
      let p = of r x e in
      record {
        values = Int (pos (series x).collector) ∷ Int (pos (series x).slot) ∷ [];
        are = rw (p.collector, p.slot) refl;
        exact = refl;
      };
  tied = λ r s x y e f tie.
      let p = of r x e in
      let q = of s y f in
      let same = equal_of_order (serial (series x)) (serial (series y)) tie in
      let collector : (series x).collector ≡ (series y).collector =
      omega (arith, p.least, p.first, p.last, q.least, q.first, q.last, same) in
      let slot : (series x).slot ≡ (series y).slot =
      omega (arith, p.least, p.first, p.last, q.least, q.first, q.last, same) in
      λ i. Int (pos (collector i)) ∷ Int (pos (slot i)) ∷ [];
}

-- ---- releases by their months and revisions

-- a row's first columns tell its release, besides what its other columns stand for
beside_tells : {X K : Type 0} (R : K → K → Ordering) (key : X → K) (from : Row → Option X) (places : List ℕ)
    → Tells R key from places → Tells (held_cmp R) (held_key key) (release_entry from) (1 ∷ 2 ∷ places)
beside_tells R key from places t = record {
  told = λ r x e.
      let a = beside from r x.0 x.1 e in
      let named = release_of r x.0 a.release in
      let b = t.told r x.1 a.row in
      record {
        values = Int (pos named.named.number) ∷ Int (pos named.revision) ∷ b.values;
        are = λ i. named.named.column i ∷ named.column i ∷ b.are i;
        exact = b.exact;
      };
  tied = λ r s x y e f tie.
      let a = beside from r x.0 x.1 e in
      let b = beside from s y.0 y.1 f in
      let m = release_of r x.0 a.release in
      let n = release_of s y.0 b.release in
      let same = held_tied R (x.0, key x.1) (y.0, key y.1) tie in
      let one = one_release m.month m.revision n.month n.revision m.low m.high n.low n.high
      (m.is ∙ same.0 ∙ sym n.is) in
      let month = same_month m.named.number n.named.number n.month (m.named.is ∙ ap Some one.0) n.named.is in
      let more = t.tied r s x.1 y.1 a.row b.row same.1 in
      λ i. Int (pos (month i)) ∷ Int (pos (one.1 i)) ∷ more i;
}

frozen_series : (r : Row) (q : Frozen) → frozen_after r ≡ Some q → HasSeries r q.series
frozen_series r q e =
    let one = bound_is (number_within 1 GREATEST_COLLECTOR (column r 3)) _ _ e in
    let two = bound_is (number_within 1 GREATEST_SLOT (column r 4)) _ _ one.2 in
    let three = bound_is (item_from (column r 5)) _ _ two.2 in
    let four = bound_is (month_from (column r 6)) _ _ three.2 in
    let five = bound_is (mark_in (column r 7) (column r 8)) _ _ four.2 in
    series_of r q.series (one.1 ∙ ap (λ (w : Frozen). Some w.series.collector) (some_is five.2))
    (two.1 ∙ ap (λ (w : Frozen). Some w.series.slot) (some_is five.2))

carried_series : (r : Row) (c : Carried) → carried_after r ≡ Some c → HasSeries r c.series
carried_series r c e =
    let one = bound_is (number_within 1 GREATEST_COLLECTOR (column r 3)) _ _ e in
    let two = bound_is (number_within 1 GREATEST_SLOT (column r 4)) _ _ one.2 in
    let three = bound_is (item_from (column r 5)) _ _ two.2 in
    let four = bound_is (month_from (column r 6)) _ _ three.2 in
    let five = bound_is (priced_from (column r 7) (column r 8) (column r 9)) _ _ four.2 in
    let six = bound_is (flag_in_value (column r 10)) _ _ five.2 in
    let seven = bound_is (flag_in_value (column r 11)) _ _ six.2 in
    series_of r c.series (one.1 ∙ ap (λ (w : Carried). Some w.series.collector) (some_is seven.2))
    (two.1 ∙ ap (λ (w : Carried). Some w.series.slot) (some_is seven.2))

-- ---- rows of tables by their codes

level_code : (r : Row) (l : Level) → level_after r ≡ Some l → column r 3 ≡ Text (code_text l.code)
level_code r l e =
    let one = bound_is (code_from (column r 3)) _ _ e in
    let two = bound_is (name_from (column r 4)) _ _ one.2 in
    let three = bound_is (weight_from one.0 (column r 5)) _ _ two.2 in
    let four = bound_is (number_within 1 MOST_INDEX (column r 6)) _ _ three.2 in
    let five = bound_is (number_within 1 MOST_LEVEL (column r 7)) _ _ four.2 in
    let six = bound_is (change_in (column r 8)) _ _ five.2 in
    let seven = bound_is (whole_or_none (column r 9)) _ _ six.2 in
    let eight = bound_is (flag_in_value (column r 10)) _ _ seven.2 in
    code_column (column r 3) l.code (one.1 ∙ ap (λ (w : Level). Some w.code) (some_is eight.2))

level_tells : Tells code_cmp (λ (l : Level). l.code) level_after (3 ∷ [])
level_tells = record {
  told = λ r l e. record { values = Text (code_text l.code) ∷ []; are = rw (level_code r l e) refl; exact = refl };
  tied = λ r s l k e f tie. let code = one_code l.code k.code tie in λ i. Text (code_text (code i)) ∷ [];
}

-- ---- headers

-- the columns of a header that name its release
pub record NamesRelease (r : Row) (h : Header) : Type 0 where
  pub month : HasMonth (column r 1) h.month
  pub revision : revision_from (column r 2) ≡ Some h.revision

pub header_names : (r : Row) (h : Header) → header_in r ≡ Some h → NamesRelease r h
header_names r h e =
    let one = bound_is (month_from (column r 1)) _ _ e in
    let two = bound_is (revision_from (column r 2)) _ _ one.2 in
    let three = bound_is (number_within 0 LAST_MOMENT (column r 3)) _ _ two.2 in
    let four = bound_is (number_within 0 LAST_MOMENT (column r 4)) _ _ three.2 in
    let five = bound_is (codes_from (column r 5)) _ _ four.2 in
    record {
      month = month_of (column r 1) h.month (one.1 ∙ ap (λ (w : Header). Some w.month) (some_is five.2));
      revision = two.1 ∙ ap (λ (w : Header). Some w.revision) (some_is five.2);
    }

header_tells : Tells release_cmp header_key header_in (1 ∷ 2 ∷ [])
header_tells = record {
  told = λ r h e.
      let a = header_names r h e in
      record {
        values = Int (pos a.month.number) ∷ Int (pos h.revision) ∷ [];
        are = rw (a.month.column, ranged_is 1 9 (column r 2) h.revision a.revision) refl;
        exact = refl;
      };
  tied = λ r s h k e f tie.
      let a = header_names r h e in
      let b = header_names s k f in
      let month = equal_of_order h.month k.month (then_first _ _ tie) in
      let revision = equal_of_order h.revision k.revision (then_second _ _ tie) in
      let number = same_month a.month.number b.month.number k.month (a.month.is ∙ ap Some month) b.month.is in
      λ i. Int (pos (number i)) ∷ Int (pos (revision i)) ∷ [];
}

-- ---- the tables

module _ (db : Trees) (sound : IsSound office_schema db) where
  pub headers_keyed : HasRowids (db 26) → IsKeyed release_cmp header_key header_in (db 26)
  headers_keyed = keyed release_cmp header_key header_in (1 ∷ 2 ∷ []) header_tells table_of_releases_2
      (record { at = 15; stands = refl; rule = λ db row. refl }) db (sound.obeys.rules Unique)

  pub frozen_keyed : HasRowids (db 28) → IsKeyed (held_cmp nat_cmp) (held_key frozen_serial) frozen_in (db 28)
  frozen_keyed = keyed (held_cmp nat_cmp) (held_key frozen_serial) frozen_in (1 ∷ 2 ∷ 3 ∷ 4 ∷ [])
      (beside_tells nat_cmp frozen_serial frozen_after (3 ∷ 4 ∷ [])
      (series_tells frozen_after (λ (q : Frozen). q.series) frozen_series)) table_of_frozen_2
      (record { at = 16; stands = refl; rule = λ db row. refl }) db (sound.obeys.rules Unique)

  pub carried_keyed : HasRowids (db 30) → IsKeyed (held_cmp nat_cmp) (held_key carried_serial) carried_in_row (db 30)
  carried_keyed = keyed (held_cmp nat_cmp) (held_key carried_serial) carried_in_row (1 ∷ 2 ∷ 3 ∷ 4 ∷ [])
      (beside_tells nat_cmp carried_serial carried_after (3 ∷ 4 ∷ [])
      (series_tells carried_after (λ (c : Carried). c.series) carried_series)) table_of_carried_2
      (record { at = 17; stands = refl; rule = λ db row. refl }) db (sound.obeys.rules Unique)

  pub levels_keyed : HasRowids (db 32) → IsKeyed (held_cmp code_cmp) (held_key (λ l. l.code)) level_in_row (db 32)
  levels_keyed = keyed (held_cmp code_cmp) (held_key (λ (l : Level). l.code)) level_in_row (1 ∷ 2 ∷ 3 ∷ [])
      (beside_tells code_cmp (λ (l : Level). l.code) level_after (3 ∷ []) level_tells) table_of_levels_2
      (record { at = 18; stands = refl; rule = λ db row. refl }) db (sound.obeys.rules Unique)
