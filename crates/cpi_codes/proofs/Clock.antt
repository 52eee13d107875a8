-- The moment of a civil text as it is computed is the one that it gives.
use Rattle.std.proofs.Common.{◌≡◌, ◌∙◌, sym, ap, refl, subst, ℕ, List, ◌+◌, ◌-◌, ◌*◌, ◌/◌, ◌%◌, ◌<◌, ◌≤◌, ◌⊎◌, inl, inr}
use Rattle.std.proofs.Common.{Bool, true, false, Option, Some, None, Result, Ok, Err, MatchOption, get_or, bytes_eq}
use Rattle.std.proofs.Common.{pos, unsigned_abs, nat_le, ◌&&◌, Decides, arith, if◌then◌else◌}
use mathlib.Core.Bool.{true≢false}
use Rattle.std.proofs.lemmas.Bool.Decides.{nat_tests}
use Rattle.std.proofs.lemmas.Slice.Eq.{bytes_eq-Decides}
use Rattle.std.specs.Int.{IsInRange}
use Rattle.std.specs.Result.{result_ok}
use Rattle.std.proofs.lemmas.Bool.{cases_lt}
use Rattle.jiff_core.specs.Calendar.{days_in_month}
use Rattle.jiff_core.specs.declared.civil.datetime.DateTime.{DateTime}
use Rattle.cpi_codes.specs.Civil.{IsCivilText, civil_text}
use Rattle.cpi_codes.specs.Following.{◌>>=◌}
use Rattle.cpi_codes.specs.Clock.{time_at, number_of_two_digits, civil_of, is_office_year, moment_in}
use Rattle.cpi_codes.specs.Zone.{ZoneGives, IsOfficeYear, ZoneRule, second_in}
use Rattle.cpi_codes.specs.declared.zone.MomentFault.{MomentFault}
use Rattle.cpi_codes.specs.declared.zone.MomentFault.TheVariants.{Text, Zone, Range, NoMemory}
use Rattle.cpi_codes.proofs.OneTime.{one_time}
use Rattle.cpi_codes.specs.Ranges.{first, range, below, within}

-- the time has these numbers, and is at a full minute
abbrev Shows : ℕ → ℕ → ℕ → ℕ → ℕ → DateTime → Type 0
Shows y m d h n t = (y < 10000) × (t.date.year ≡ pos y) × (t.date.month ≡ m) × (t.date.day ≡ d) × (t.time.hour ≡ h)
    × (t.time.minute ≡ n)
    × (t.time.second ≡ 0) × (t.time.subsec_nanosecond ≡ 0)

-- what is found is such a value, and where none is there is none
abbrev Finds : {A : Type 0} → (A → Type 0) → Option A → Type 0
Finds {A} P found = MatchOption found ((a : A) → P a → ⊥) P

if_below : {B : Type 0} (P : B → Type 0) (end n : ℕ) (f : n < end → Option B) → ((h : n < end) → Finds P (f h)) →
    ((b : B) → P b → n < end)
    → Finds P (below end n >>= f)
if_below P end n f there only = cases (cases_lt n end)
  where
    cases : (o : (n < end) ⊎ (end ≤ n)) → Finds P (first o >>= f)
    cases (inl h) = there h
    cases (inr h) = λ b p. let lt = only b p in absurd (omega arith)

if_within : {B : Type 0} (P : B → Type 0) (low high n : ℕ) (f : IsInRange low high n → Option B) →
    ((h : IsInRange low high n) → Finds P (f h))
    → ((b : B) → P b → IsInRange low high n) → Finds P (within low high n >>= f)
if_within P low high n f there only = cases (cases_lt n low) (cases_lt high n)
  where
    cases : (o : (n < low) ⊎ (low ≤ n)) (q : (high < n) ⊎ (n ≤ high)) → Finds P (range o q >>= f)
    cases (inr h) (inr k) = there (h, k)
    cases (inr h) (inl k) = λ b p. let le = (only b p).1 in absurd (omega arith)
    cases (inl h) q = λ b p. let le = (only b p).0 in absurd (omega arith)

-- the date of these numbers has a month of them, and a day
month_of : (y m d h n : ℕ) (t : DateTime) → Shows y m d h n t → IsInRange 1 12 m
month_of y m d h n t s = rw (← s.2) t.date.month_in

day_of : (y m d h n : ℕ) (t : DateTime) → Shows y m d h n t → IsInRange 1 (days_in_month (pos y) m) d
day_of y m d h n t s =
    subst (λ z. IsInRange 1 (days_in_month z m) d) s.1
    (subst (λ z. IsInRange 1 (days_in_month t.date.year z) d) s.2
    (subst (λ z. IsInRange 1 (days_in_month t.date.year t.date.month) z) s.3 t.date.day_in))

finds_time : (y m d h n : ℕ) → Finds (Shows y m d h n) (time_at y m d h n)
unfolding time_at
finds_time y m d h n =
    let P = Shows y m d h n in
    if_below P 10000 y _ (λ a. if_within P 1 12 m _
    (λ b. if_within P 1 (days_in_month (pos y) m) d _ (λ c. if_below P 24 h _ (λ e. if_below P 60 n _
    (λ g. (a, refl, refl, refl, refl, refl, refl, refl))
    (λ t s. rw (← s.5) t.time.minute_in))
    (λ t s. rw (← s.4) t.time.hour_in))
    (day_of y m d h n))
    (month_of y m d h n))
    (λ t s. s.0)

-- ---- the numbers that a civil text writes

abbrev year_in : List ℕ → ℕ
year_in text = number_of_two_digits text 0 * 100 + number_of_two_digits text 2

abbrev AreNumbers : List ℕ → ℕ → ℕ → ℕ → ℕ → ℕ → Type 0
AreNumbers text y m d h n = (year_in text ≡ y) × (number_of_two_digits text 5 ≡ m) × (number_of_two_digits text 8 ≡ d)
    × (number_of_two_digits text 11 ≡ h) × (number_of_two_digits text 14 ≡ n)

digits_back : (n : ℕ) → (48 + n / 10 - 48) * 10 + (48 + n % 10 - 48) ≡ n
digits_back n = omega arith

numbers : (text : List ℕ) (y m d h n : ℕ) → text ≡ civil_text y m d h n → AreNumbers text y m d h n
numbers text y m d h n e =
    let at : (k : ℕ) → get_or text k 0 ≡ get_or (civil_text y m d h n) k 0 = λ k. ap (λ l. get_or l k 0) e in
    let century : number_of_two_digits text 0 ≡ y / 100 = rw (at 0, at 1) (digits_back (y / 100)) in
    let in_century : number_of_two_digits text 2 ≡ y % 100 = rw (at 2, at 3) (digits_back (y % 100)) in (
      rw (century, in_century) (omega arith),
      rw (at 5, at 6) (digits_back m),
      rw (at 8, at 9) (digits_back d),
      rw (at 11, at 12) (digits_back h),
      rw (at 14, at 15) (digits_back n),
    )

-- ---- the time that a text writes

abbrev IsOf : List ℕ → DateTime → Type 0
IsOf text time = (year : ℕ) × IsCivilText text year time

abbrev written : List ℕ → List ℕ
written text = civil_text (year_in text) (number_of_two_digits text 5) (number_of_two_digits text 8)
    (number_of_two_digits text 11)
    (number_of_two_digits text 14)

-- such a text is how its numbers are written, and they are the time's
shows : (text : List ℕ) (t : DateTime) → IsOf text t → (text ≡ written text)
    × Shows (year_in text) (number_of_two_digits text 5) (number_of_two_digits text 8) (number_of_two_digits text 11)
    (number_of_two_digits text 14) t
shows text t is =
    let e = numbers text is.0 t.date.month t.date.day t.time.hour t.time.minute is.1.spelled in (
      rw (e.0, e.1, e.2, e.3, e.4) is.1.spelled,
      rw (e.0, e.1, e.2, e.3, e.4)
          (is.1.four, is.1.year_is, refl, refl, refl, refl, is.1.second, is.1.fraction),
    )

is_of : (text : List ℕ) (y m d h n : ℕ) (t : DateTime) → text ≡ civil_text y m d h n → Shows y m d h n t → IsOf text t
is_of text y m d h n t e s = (
  y,
  record {
    year_is = s.1;
    four = s.0;
    spelled = rw (s.2, s.3, s.4, s.5) e;
    second =
        s.6;
    fraction = s.7;
  },
)

weaker : {A : Type 0} (P Q : A → Type 0) (o : Option A) → ((a : A) → P a → Q a) → ((a : A) → Q a → P a) → Finds P o →
    Finds Q o
weaker P Q None to from found = λ a q. found a (from a q)
weaker P Q (Some a) to from found = to a found

pub finds_text : (text : List ℕ) → Finds (IsOf text) (civil_of text)
unfolding civil_of
finds_text text = cases (bytes_eq text (written text)) (bytes_eq-Decides text (written text))
  where
    cases : (same : Bool) → Decides same (text ≡ written text)
        → Finds (IsOf text) (if same then time_at (year_in text) (number_of_two_digits text 5)
        (number_of_two_digits text 8)
        (number_of_two_digits text 11) (number_of_two_digits text 14) else None)
    cases true is =
        weaker (Shows (year_in text) (number_of_two_digits text 5) (number_of_two_digits text 8)
        (number_of_two_digits text 11)
        (number_of_two_digits text 14)) (IsOf text) _
        (λ t s. is_of text _ _ _ _ _ t (is.0 refl) s) (λ t q. (shows text t q).1) (finds_time _ _ _ _ _)
    cases false is = λ t q. absurd (true≢false (sym (is.1 (shows text t q).0)))

-- ---- the moment

abbrev moment_of : ZoneRule → Option DateTime → Option ℕ
moment_of zone found = found >>= λ time. if is_office_year time.date.year then Some
    (unsigned_abs (second_in zone time)) else None

abbrev Times : List ℕ → Option DateTime → Type 0
Times text found = Finds (IsOf text) found

in_office : (y : ℕ) → IsOfficeYear y → is_office_year (pos y) ≡ true
in_office y h = grind (arith, nat_tests)

outside : (y : ℕ) → ¬ IsOfficeYear y → is_office_year (pos y) ≡ false
outside y h = cases (nat_le 2000 y) (nat_le y 2199) refl refl
  where
    cases : (a b : Bool) → nat_le 2000 y ≡ a → nat_le y 2199 ≡ b → (a && b) ≡ false
    cases true true e k = absurd (h (grind (arith, nat_tests), grind (arith, nat_tests)))
    cases true false e k = refl
    cases false b e k = refl

same_moment : (zone : ZoneRule) (text : List ℕ) (found : Option DateTime) (r : Result ℕ MomentFault) →
    Times text found → ZoneGives zone text r → result_ok r ≡ moment_of zone found
same_moment zone text (Some t) (Ok s) is g =
    let same = one_time text is.0 g.0 t g.1 is.1 g.2 in
    let year : t.date.year ≡ pos g.0 = ap (λ u. u.date.year) same.1 ∙ g.2.year_is in
    let second : second_in zone t ≡ pos s = ap (second_in zone) same.1 ∙ sym g.4 in
    let known : is_office_year t.date.year ≡ true = ap is_office_year year ∙ in_office g.0 g.3 in
    rw (known, second) refl
same_moment zone text None (Ok s) is g = absurd (is g.1 (g.0, g.2))
same_moment zone text (Some t) (Err Text) is g = absurd (g is.0 t is.1)
same_moment zone text None (Err Text) is g = refl
same_moment zone text (Some t) (Err Range) is g =
    let same = one_time text is.0 g.0 t g.1 is.1 g.2 in
    let year : t.date.year ≡ pos g.0 = ap (λ u. u.date.year) same.1 ∙ g.2.year_is in
    let unknown : is_office_year t.date.year ≡ false = ap is_office_year year ∙ outside g.0 g.3 in
    rw unknown refl
same_moment zone text None (Err Range) is g = refl
same_moment zone text found (Err Zone) is g = absurd g
same_moment zone text found (Err NoMemory) is g = absurd g

-- what a text gives is what is computed
pub gives_moment : (zone : ZoneRule) (text : List ℕ) (r : Result ℕ MomentFault) → ZoneGives zone text r →
    result_ok r ≡ moment_in zone text
unfolding moment_in
gives_moment zone text r g = same_moment zone text (civil_of text) r (finds_text text) g
