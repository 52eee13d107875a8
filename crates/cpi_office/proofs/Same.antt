-- Rows that are the same are equal.
use Rattle.std.proofs.Common.{◌≡◌, ℕ, true, List, Some, None, Option, refl, ap}
use Rattle.std.specs.Prelude.{◌&&◌, ◌==◌}
use Rattle.std.specs.Cmp.Lexicographic.{bytes_decides}
use Rattle.std.proofs.lemmas.Bool.{eqb-true, false≢true}
use Rattle.cpi_rows.proofs.Truth.{and_both, same_of_equal}
use Rattle.cpi_codes.specs.Text.{same_text}
use Rattle.cpi_plan.specs.Items.{same_item}
use Rattle.cpi_plan.specs.Calendar.{same_calendar, CalendarPart}
use Rattle.cpi_store.specs.Registration.{same_registration}
use Rattle.cpi_store.specs.Outlet.{same_outlet}
use Rattle.cpi_store.specs.declared.outlet.Outlet.{Outlet}
use Rattle.cpi_survey.specs.Assignment.{same_assignment, same_price}
use Rattle.cpi_survey.specs.Mark.{is_same_mark, is_same_reason}
use Rattle.cpi_plan.specs.declared.items.Item.{Item}
use Rattle.cpi_store.specs.declared.registration.Registration.{Registration}
use Rattle.cpi_store.specs.declared.given.Given.{Given}
use Rattle.cpi_store.specs.Series.{same_series}
use Rattle.cpi_codes.specs.declared.series.SeriesId.{SeriesId}
use Rattle.cpi_office.specs.Assigning.{same_given}
use Rattle.cpi_survey.specs.declared.assignment.Assignment.{Assignment}
use Rattle.cpi_survey.specs.declared.mark.Mark.{Mark}
use Rattle.cpi_survey.specs.declared.mark.Mark.TheVariants.{Price, Missing, Comparable, Other}
use Rattle.cpi_survey.specs.declared.mark.Reason.{Reason}
use Rattle.cpi_survey.specs.declared.mark.Reason.TheVariants.{Stock, Closed, Gone, Refused}

text_equal : (a b : List ℕ) → same_text a b ≡ true → a ≡ b
text_equal a b e = (bytes_decides a b).0 e

reason_equal : (r s : Reason) → is_same_reason r s ≡ true → r ≡ s
reason_equal Stock Stock e = refl
reason_equal Stock Closed e = absurd (false≢true e)
reason_equal Stock Gone e = absurd (false≢true e)
reason_equal Stock Refused e = absurd (false≢true e)
reason_equal Closed Stock e = absurd (false≢true e)
reason_equal Closed Closed e = refl
reason_equal Closed Gone e = absurd (false≢true e)
reason_equal Closed Refused e = absurd (false≢true e)
reason_equal Gone Stock e = absurd (false≢true e)
reason_equal Gone Closed e = absurd (false≢true e)
reason_equal Gone Gone e = refl
reason_equal Gone Refused e = absurd (false≢true e)
reason_equal Refused Stock e = absurd (false≢true e)
reason_equal Refused Closed e = absurd (false≢true e)
reason_equal Refused Gone e = absurd (false≢true e)
reason_equal Refused Refused e = refl

pub mark_equal : (a b : Mark) → is_same_mark a b ≡ true → a ≡ b
mark_equal (Price p) (Price q) e = ap Price (eqb-true p q e)
mark_equal (Price p) (Missing s) e = absurd (false≢true e)
mark_equal (Price p) (Comparable q) e = absurd (false≢true e)
mark_equal (Price p) (Other q) e = absurd (false≢true e)
mark_equal (Missing r) (Price q) e = absurd (false≢true e)
mark_equal (Missing r) (Missing s) e = ap Missing (reason_equal r s e)
mark_equal (Missing r) (Comparable q) e = absurd (false≢true e)
mark_equal (Missing r) (Other q) e = absurd (false≢true e)
mark_equal (Comparable p) (Price q) e = absurd (false≢true e)
mark_equal (Comparable p) (Missing s) e = absurd (false≢true e)
mark_equal (Comparable p) (Comparable q) e = ap Comparable (eqb-true p q e)
mark_equal (Comparable p) (Other q) e = absurd (false≢true e)
mark_equal (Other p) (Price q) e = absurd (false≢true e)
mark_equal (Other p) (Missing s) e = absurd (false≢true e)
mark_equal (Other p) (Comparable q) e = absurd (false≢true e)
mark_equal (Other p) (Other q) e = ap Other (eqb-true p q e)

pub item_equal : (a b : Item) → same_item a b ≡ true → a ≡ b
item_equal a b e =
    let h = and_both (a.code == b.code && same_text a.text b.text && same_text a.unit b.unit && a.low == b.low)
    (a.high == b.high) e in
    let i = and_both (a.code == b.code && same_text a.text b.text && same_text a.unit b.unit) (a.low == b.low) h.0 in
    let j = and_both (a.code == b.code && same_text a.text b.text) (same_text a.unit b.unit) i.0 in
    let k = and_both (a.code == b.code) (same_text a.text b.text) j.0 in
    λ n. record {
      code = same_of_equal a.code b.code k.0 n;
      text = text_equal a.text b.text k.1 n;
      unit =
          text_equal a.unit b.unit j.1 n;
      low = same_of_equal a.low b.low i.1 n;
      high = same_of_equal a.high b.high h.1 n;
    }

pub calendar_equal : (a b : CalendarPart) → same_calendar a b ≡ true → a ≡ b
calendar_equal a b e =
    let h = and_both (a.month == b.month && a.opens == b.opens && a.closes == b.closes)
    (a.publishes == b.publishes) e in
    let i = and_both (a.month == b.month && a.opens == b.opens) (a.closes == b.closes) h.0 in
    let j = and_both (a.month == b.month) (a.opens == b.opens) i.0 in
    λ n. record {
      month = same_of_equal a.month b.month j.0 n;
      opens = same_of_equal a.opens b.opens j.1 n;
      closes =
          same_of_equal a.closes b.closes i.1 n;
      publishes = same_of_equal a.publishes b.publishes h.1 n;
    }

pub outlet_equal : (a b : Outlet) → same_outlet a b ≡ true → a ≡ b
outlet_equal a b e =
    let h = and_both (a.number == b.number) (same_text a.name b.name) e in
    λ n. record { number = same_of_equal a.number b.number h.0 n; name = text_equal a.name b.name h.1 n }

pub registration_equal : (a b : Registration) → same_registration a b ≡ true → a ≡ b
registration_equal a b e =
    let h = and_both (a.number == b.number) (a.key == b.key) e in
    λ n. record { number = same_of_equal a.number b.number h.0 n; key = same_of_equal a.key b.key h.1 n }

price_equal : (p q : Option ℕ) → same_price p q ≡ true → p ≡ q
price_equal None None e = refl
price_equal None (Some q) e = absurd (false≢true e)
price_equal (Some p) None e = absurd (false≢true e)
price_equal (Some p) (Some q) e = ap Some (eqb-true p q e)

pub assignment_equal : (a b : Assignment) → same_assignment a b ≡ true → a ≡ b
assignment_equal a b e =
    let placed = a.slot == b.slot && a.outlet == b.outlet && a.item == b.item in
    let g = and_both (placed && a.first_month == b.first_month && a.last_month == b.last_month)
    (same_price a.copied b.copied) e in
    let h = and_both (placed && a.first_month == b.first_month) (a.last_month == b.last_month) g.0 in
    let i = and_both placed (a.first_month == b.first_month) h.0 in
    let j = and_both (a.slot == b.slot && a.outlet == b.outlet) (a.item == b.item) i.0 in
    let k = and_both (a.slot == b.slot) (a.outlet == b.outlet) j.0 in
    λ n. record {
      slot = same_of_equal a.slot b.slot k.0 n;
      outlet = same_of_equal a.outlet b.outlet k.1 n;
      item = same_of_equal a.item b.item j.1 n;
      first_month = same_of_equal a.first_month b.first_month i.1 n;
      last_month = same_of_equal a.last_month b.last_month h.1 n;
      copied = price_equal a.copied b.copied g.1 n;
    }

pub series_equal : (s t : SeriesId) → same_series s t ≡ true → s ≡ t
series_equal s t e =
    let h = and_both (s.collector == t.collector) (s.slot == t.slot) e in
    λ n. record { collector = same_of_equal s.collector t.collector h.0 n; slot = same_of_equal s.slot t.slot h.1 n }

pub given_equal : (a b : Given) → same_given a b ≡ true → a ≡ b
given_equal a b e =
    let h = and_both (same_assignment a.assignment b.assignment) (same_series a.series b.series) e in
    λ n. record {
      assignment = assignment_equal a.assignment b.assignment h.0 n;
      series =
          series_equal a.series b.series h.1 n;
    }
