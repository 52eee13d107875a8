-- The upsert of a quote, as a change of the quotes.
use Rattle.std.proofs.Common.{◌≡◌, ℕ, pos, ◌/◌, ◌%◌, ◌+◌, ◌-◌, ◌*◌, ◌≤◌, List, [], ◌∷◌}
use Rattle.std.proofs.Common.{Bool, true, false, Some, Ok, Err, refl, sym, ap}
use Rattle.std.proofs.Common.{◌∙◌, arith}
use Rattle.std.specs.Prelude.{if◌then◌else◌}
use Rattle.std.specs.declared.cmp.Ordering.{Ordering}
use Rattle.std.specs.declared.cmp.Ordering.TheVariants.{Equal}
use Rattle.std.specs.Cmp.{tied_itself}
use Rattle.std.proofs.lemmas.Bool.{and_parts, leb-true}
use Rattle.sqlite.specs.declared.types.Value.{Value}
use Rattle.sqlite.specs.declared.types.Value.TheVariants.{Null, Int}
use Rattle.sqlite.specs.Order.{Row, column}
use Rattle.cpi_rows.specs.Held.{held_cmp, held_key}
use Rattle.cpi_rows.proofs.Held.{held_total}
use Rattle.cpi_rows.proofs.Truth.{equal_of_order, then_first, then_second}
use Rattle.cpi_survey.proofs.Latest.{quote_order}
use Rattle.cpi_codes.specs.Month.{month_in, is_in_calendar}
use Rattle.cpi_codes.specs.declared.months.MonthFault.TheVariants.{Range}
use Rattle.cpi_codes.specs.declared.limits.TheConstants.{GREATEST_SLOT, GREATEST_COLLECTOR}
use Rattle.cpi_survey.specs.Quote.{QuoteRow, quote_cmp, quote_key}
use Rattle.cpi_store.specs.declared.registration.Registration.{Registration}
use Rattle.cpi_sql_rows.specs.Lists.{quote_in, quote_from, number_within, receipt_from, month_from, month_at, month_out}
use Rattle.cpi_sql_rows.specs.Lists.{mark_in, number_in_value}
use Rattle.cpi_sql_rows.proofs.Listed.{PutsRow}
use Rattle.cpi_sql_rows.proofs.Lists.{bound_is, held_tied, number_is, ranged_is, some_is}
use Rattle.cpi_sql_rows.proofs.KeyColumns.{Tells}
use Rattle.cpi_sql_rows.proofs.QuoteRows.{quote_places}
use Rattle.cpi_sql_rows.proofs.Upserts.{PutsOver, puts_row}

record IsMonthOf (y k m : ℕ) : Type 0 where
  pub first : 2000 ≤ y
  pub last : y ≤ 2199
  pub low : 1 ≤ k
  pub high : k ≤ 12
  pub is : 12 * (y - 2000) + (k - 1) ≡ m

month_parts : (y k m : ℕ) → month_out (month_in y k) ≡ Some m → IsMonthOf y k m
month_parts y k m e = at (is_in_calendar y k) refl e
  where
    at : (b : Bool) → is_in_calendar y k ≡ b
        → month_out (if b then Ok (12 * (y - 2000) + (k - 1)) else Err Range) ≡ Some m → IsMonthOf y k m
    at true f e =
        let three = and_parts _ _ f in
        let two = and_parts _ _ three.0 in
        let one = and_parts _ _ two.0 in
        record {
          first = leb-true 2000 y one.0;
          last = leb-true y 2199 one.1;
          low = leb-true 1 k two.1;
          high = leb-true k 12 three.1;
          is = some_is e;
        }
    at false f e = cc

pub same_month : (a b m : ℕ) → month_at a ≡ Some m → month_at b ≡ Some m → a ≡ b
same_month a b m ea eb =
    let p = month_parts (a / 100) (a % 100) m ea in
    let q = month_parts (b / 100) (b % 100) m eb in
    omega (arith, p.first, p.low, p.high, p.is, q.first, q.low, q.high, q.is)

-- the number that stands for a month in a column
pub record HasMonth (v : Value) (m : ℕ) : Type 0 where
  pub number : ℕ
  pub column : v ≡ Int (pos number)
  pub is : month_at number ≡ Some m

pub month_of : (v : Value) (m : ℕ) → month_from v ≡ Some m → HasMonth v m
month_of v m e =
    let it = bound_is (number_in_value v) month_at m e in
    record { number = it.0; column = number_is v it.0 it.1; is = it.2 }

-- the columns of a row that stands for a quote
pub record HasNumbers (r : Row) (c : ℕ) (q : QuoteRow) : Type 0 where
  pub collector : column r 1 ≡ Int (pos c)
  pub slot : column r 2 ≡ Int (pos q.slot)
  pub month : HasMonth (column r 3) q.month

pub numbers_of : (r : Row) (c : ℕ) (q : QuoteRow) → quote_in r ≡ Some (c, q) → HasNumbers r c q
numbers_of r c q e =
    let one = bound_is (number_within 1 GREATEST_COLLECTOR (column r 1)) _ _ e in
    let two = bound_is (quote_from (column r 2) (column r 3) (column r 4) (column r 5) (column r 6)) _ _ one.2 in
    let pair : ◌≡◌ {A = ℕ × QuoteRow} (one.0, two.0) (c, q) = some_is two.2 in
    let three = bound_is (number_within 1 GREATEST_SLOT (column r 2)) _ _ two.1 in
    let four = bound_is (month_from (column r 3)) _ _ three.2 in
    let five = bound_is (mark_in (column r 4) (column r 5)) _ _ four.2 in
    let six = bound_is (receipt_from (column r 6)) _ _ five.2 in
    let made : record { slot = three.0; month = four.0; mark = five.0; receipt = six.0 } ≡ two.0 = some_is six.2 in
    let is_q : two.0 ≡ q = ap (λ (p : ℕ × QuoteRow). p.1) pair in
    record {
      collector = ranged_is 1 GREATEST_COLLECTOR (column r 1) c (one.1 ∙ ap (λ (p : ℕ × QuoteRow). Some p.0) pair);
      slot = ranged_is 1 GREATEST_SLOT (column r 2) q.slot (three.1 ∙ ap (λ (w : QuoteRow). Some w.slot) (made ∙ is_q));
      month = month_of (column r 3) q.month (four.1 ∙ ap (λ (w : QuoteRow). Some w.month) (made ∙ is_q));
    }

abbrev R : ℕ × (ℕ × ℕ) → ℕ × (ℕ × ℕ) → Ordering
R = held_cmp quote_cmp

abbrev key : ℕ × QuoteRow → ℕ × (ℕ × ℕ)
key = held_key quote_key

-- the collector, the slot and the month of a quote are told by its row's columns
abbrev pub quote_tells : Tells R key quote_in quote_places
quote_tells = record {
  told = λ r x e.
      let n = numbers_of r x.0 x.1 e in
      record {
        values = Int (pos x.0) ∷ Int (pos x.1.slot) ∷ Int (pos n.month.number) ∷ [];
        are = rw (n.collector, n.slot, n.month.column) refl;
        exact = refl;
      };
  tied = λ r s x y e f tie.
      let a = numbers_of r x.0 x.1 e in
      let b = numbers_of s y.0 y.1 f in
      let same = held_tied quote_cmp (key x) (key y) tie in
      let slot = equal_of_order x.1.slot y.1.slot (then_first _ _ same.1) in
      let month = equal_of_order x.1.month y.1.month (then_second _ _ same.1) in
      let number = same_month a.month.number b.month.number y.1.month (a.month.is ∙ ap Some month) b.month.is in
      λ i. Int (pos (same.0 i)) ∷ Int (pos (slot i)) ∷ Int (pos (number i)) ∷ [];
}

-- and quotes with the same columns are of one key
same_key : (r s : Row) (x y : ℕ × QuoteRow) (e : quote_in r ≡ Some x) (f : quote_in s ≡ Some y)
    → (quote_tells.told r x e).values ≡ (quote_tells.told s y f).values → R (key x) (key y) ≡ Equal
same_key r s x y e f same =
    let a = numbers_of r x.0 x.1 e in
    let b = numbers_of s y.0 y.1 f in
    let mine : x.0 ≡ y.0 = cc in
    let slot : x.1.slot ≡ y.1.slot = cc in
    let number : a.month.number ≡ b.month.number = cc in
    let month : x.1.month ≡ y.1.month = some_is (sym a.month.is ∙ ap month_at number ∙ b.month.is) in
    rw (mine, slot, month) (tied_itself (held_total quote_order) (key y))

pub quote_puts : (b : Registration) (q : QuoteRow) (columns : Row)
    → ((id : Value) → quote_in (id ∷ columns) ≡ Some (b.number, q))
    → (old new : List Row) → PutsOver quote_places Null columns old new
    → PutsRow (held_total quote_order) key quote_in (b.number, q) old new
quote_puts b q columns is = puts_row quote_places Null columns (held_total quote_order) key quote_in quote_tells
    (b.number, q) (λ id _. is id) (λ r y e. refl) same_key
