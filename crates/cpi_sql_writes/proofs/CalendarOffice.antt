-- The upsert of a calendar row, as a change of the calendar.
use Rattle.std.proofs.Common.{◌≡◌, ℕ, pos, List, [], ◌∷◌, Bool, true, false, Some, None}
use Rattle.std.proofs.Common.{refl, sym, ap, subst, ◌∙◌}
use Rattle.std.specs.Ordering.{nat_cmp}
use Rattle.std.specs.declared.cmp.Ordering.TheVariants.{Equal}
use Rattle.std.specs.Prelude.{if◌then◌else◌}
use Rattle.std.specs.Cmp.{tied_itself}
use Rattle.std.proofs.lemmas.Cmp.{nat_cmp_total}
use Rattle.sqlite.specs.declared.types.Value.{Value}
use Rattle.sqlite.specs.declared.types.Value.TheVariants.{Int}
use Rattle.sqlite.specs.Order.{Row, column}
use Rattle.cpi_codes.specs.declared.limits.TheConstants.{LAST_MOMENT}
use Rattle.cpi_plan.specs.Calendar.{CalendarPart}
use Rattle.cpi_sql_rows.specs.Lists.{calendar_in, number_within, month_from, month_at, in_turn}
use Rattle.cpi_sql_writes.specs.Rest.{IsMonth, KeepsBut}
use Rattle.cpi_sql_rows.proofs.Listed.{PutsRow}
use Rattle.cpi_sql_rows.proofs.KeyColumns.{Tells}
use Rattle.cpi_sql_writes.proofs.Kept.{agreed_number, over_kept}
use Rattle.cpi_rows.proofs.Truth.{equal_of_order}
use Rattle.cpi_sql_rows.proofs.Lists.{bound_is, some_is}
use Rattle.cpi_sql_rows.proofs.QuoteOffice.{HasMonth, month_of, same_month}
use Rattle.cpi_sql_rows.proofs.Upserts.{IsNamed, PutsOver, puts_row}
use Rattle.cpi_sql_writes.proofs.CalendarRows.{calendar_places, day_behind}

turn_month : (m o c p : ℕ) (x : CalendarPart) → in_turn m o c p ≡ Some x → m ≡ x.month
turn_month m o c p x e = at _ e
  where
    at : (b : Bool) → (if b then Some (record { month = m; opens = o; closes = c; publishes = p }) else None) ≡ Some x
        → m ≡ x.month
    at true e = ap (λ (r : CalendarPart). r.month) (some_is e)
    at false e = cc

-- the month of a row that stands for a calendar row
month_in : (r : Row) (x : CalendarPart) → calendar_in r ≡ Some x → HasMonth (column r 0) x.month
month_in r x e =
    let one = bound_is (month_from (column r 0)) _ _ e in
    let two = bound_is (number_within 0 LAST_MOMENT (column r 2)) _ _ one.2 in
    let three = bound_is (number_within 0 LAST_MOMENT (column r 3)) _ _ two.2 in
    let four = bound_is (number_within 0 LAST_MOMENT (column r 4)) _ _ three.2 in
    month_of (column r 0) x.month (one.1 ∙ ap Some (turn_month one.0 two.0 three.0 four.0 x four.2))

abbrev pub day_key : CalendarPart → ℕ
day_key x = x.month

-- the rowid of a calendar row shows its month
abbrev day_tells : Tells nat_cmp day_key calendar_in calendar_places
day_tells = record {
  told = λ r x e.
      let n = month_in r x e in
      record { values = Int (pos n.number) ∷ []; are = rw n.column refl; exact = refl };
  tied = λ r s x y e f tie.
      let a = month_in r x e in
      let b = month_in s y f in
      let month = equal_of_order x.month y.month tie in
      let number = same_month a.number b.number y.month (a.is ∙ ap Some month) b.is in
      λ i. Int (pos (number i)) ∷ [];
}

-- and rows with the same are of one month
same_key : (r s : Row) (x y : CalendarPart) (e : calendar_in r ≡ Some x) (f : calendar_in s ≡ Some y)
    → (day_tells.told r x e).values ≡ (day_tells.told s y f).values → nat_cmp (day_key x) (day_key y) ≡ Equal
same_key r s x y e f same =
    let a = month_in r x e in
    let b = month_in s y f in
    let number : a.number ≡ b.number = cc in
    let month : x.month ≡ y.month = some_is (sym a.is ∙ ap month_at number ∙ b.is) in
    rw month (tied_itself nat_cmp_total y.month)

module _ (x : CalendarPart) (m o c p : ℕ) (is : calendar_in (Int (pos m) ∷ day_behind o c p) ≡ Some x) where
  as_named : (id : Value) → IsNamed calendar_places (Int (pos m)) (day_behind o c p) id
      → calendar_in (id ∷ day_behind o c p) ≡ Some x
  as_named id named =
      let same : id ≡ Int (pos m) = cc in subst (λ v. calendar_in (v ∷ day_behind o c p) ≡ Some x) (sym same) is

  pub day_puts : (old new : List Row) → PutsOver calendar_places (Int (pos m)) (day_behind o c p) old new
      → PutsRow nat_cmp_total day_key calendar_in x old new
  day_puts = puts_row calendar_places (Int (pos m)) (day_behind o c p) nat_cmp_total day_key calendar_in day_tells x
      as_named (λ r y e. refl) same_key

  pub day_kept : (old new : List Row) → PutsOver calendar_places (Int (pos m)) (day_behind o c p) old new
      → KeepsBut (λ r. IsMonth x.month (column r 0)) old new
  day_kept old new put =
      over_kept calendar_places (Int (pos m)) (day_behind o c p) old new put (λ r. IsMonth x.month (column r 0))
      (λ r hit.
      let row = Int (pos m) ∷ day_behind o c p in
      let month = month_in row x is in
      (month.number, month.is, (agreed_number 0 [] r row month.number month.column hit).0))
