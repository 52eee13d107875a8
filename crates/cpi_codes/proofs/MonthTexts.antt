-- Months as they are printed and read.
use Rattle.std.proofs.Common.{◌≡◌, ◌∙◌, refl, ap, ℕ, ◌+◌, ◌-◌, ◌*◌, ◌/◌, ◌%◌, ◌^◌, ◌<◌, ◌≤◌, inl, inr, List, [], ◌∷◌}
use Rattle.std.proofs.Common.{◌++◌, true, false, nat_le, Ok, append_assoc, arith}
use Rattle.std.proofs.lemmas.Bool.{cases_lt}
use Rattle.std.specs.Fmt.{decimal, styled_decimal, format_spec, padded_integral, char_count}
use Rattle.std.proofs.lemmas.Fmt.{decimal_digit, decimal_step}
use Rattle.std.proofs.lemmas.Bool.Decides.{nat_tests}
use Rattle.std.proofs.lemmas.Str.{digit_value_digit}
use Rattle.std.specs.Char.{is_ascii_digit, digit_value}
use Rattle.cpi_codes.specs.Month.{below_hundred, year_of, month_of_year, month_text, month_in, month_of}
use Rattle.cpi_codes.specs.Month.{months_since_2000}

-- a number below 100 that is printed with at least two digits, filled up with a zero in front
padded_below_10 : (n : ℕ) → n < 10 → padded_integral (format_spec 32 0 4 2 (2 ^ 64 - 1)) false []
    (decimal n) ≡ below_hundred n
unfolding padded_integral char_count
padded_below_10 n h =
    let none : n / 10 ≡ 0 = omega arith in
    let all : n % 10 ≡ n = omega arith in
    rw (decimal_digit n h, none, all, decimal_digit n h, decimal_digit 0 (omega arith)) refl

padded_from_10 : (n : ℕ) → 10 ≤ n → n < 100 → padded_integral (format_spec 32 0 4 2 (2 ^ 64 - 1)) false []
    (decimal n) ≡ below_hundred n
unfolding padded_integral char_count
padded_from_10 n h k =
    rw (decimal_step n h (omega arith), decimal_digit (n / 10) (omega arith), decimal_digit (n % 10) (omega arith)) refl

pub padded_two : (n : ℕ) → n < 100 → padded_integral (format_spec 32 0 4 2 (2 ^ 64 - 1)) false []
    (decimal n) ≡ below_hundred n
padded_two n h = elim (cases_lt n 10) [ inl small ↦ padded_below_10 n small | inr large ↦ padded_from_10 n large h ]

-- a month is printed as its year, a dash and the month of the year in two digits
pub month_written : (month year number : ℕ) → year ≡ year_of month → number ≡ month_of_year month → decimal year
    ++ 45 ∷ styled_decimal (format_spec 32 0 4 2 (2 ^ 64 - 1)) number ≡ month_text month
month_written month year number y n =
    let small : month_of_year month < 100 = omega arith in
    rw (y, n, padded_two (month_of_year month) small) (simp append_assoc)

digit_true : (d : ℕ) → d < 10 → is_ascii_digit (48 + d) ≡ true
digit_true d h = grind (arith, nat_tests)

digit_worth : (d : ℕ) → d < 10 → digit_value (48 + d) ≡ d
digit_worth d h = let worth = digit_value_digit (48 + d) (omega arith, omega arith) in omega arith

-- the bytes of four digits, a dash and two digits
pub spelled : ℕ → ℕ → ℕ → ℕ → ℕ → ℕ → List ℕ
spelled a b c d e f = (48 + a) ∷ (48 + b) ∷ (48 + c) ∷ (48 + d) ∷ 45 ∷ (48 + e) ∷ (48 + f) ∷ []

month_of_digits : (a b c d e f : ℕ) → a < 10 → b < 10 → c < 10 → d < 10 → e < 10 → f < 10 →
    month_of (spelled a b c d e f) ≡ month_in ((((0 * 10 + a) * 10 + b) * 10 + c) * 10 + d) ((0 * 10 + e) * 10 + f)
unfolding spelled
month_of_digits a b c d e f ha hb hc hd he hf =
    rw (
      digit_true a ha,
      digit_true b hb,
      digit_true c hc,
      digit_true d hd,
      digit_true e he,
      digit_true f hf,
      digit_worth a ha,
      digit_worth b hb,
      digit_worth c hc,
      digit_worth d hd,
      digit_worth e he,
      digit_worth f hf,
    ) refl

in_calendar : (month : ℕ) → month < 2400 → month_in (year_of month) (month_of_year month) ≡ Ok month
in_calendar month h =
    let first : nat_le 2000 (year_of month) ≡ true = grind (arith, nat_tests) in
    let last : nat_le (year_of month) 2199 ≡ true = grind (arith, nat_tests) in
    let low : nat_le 1 (month_of_year month) ≡ true = grind (arith, nat_tests) in
    let high : nat_le (month_of_year month) 12 ≡ true = grind (arith, nat_tests) in
    let back : months_since_2000 (year_of month) (month_of_year month) ≡ month = omega arith in
    rw (first, last, low, high, back) refl

four_digits : (y : ℕ) → 1000 ≤ y → y < 10000 → decimal y ≡ (48 + y / 10 / 10 / 10) ∷ (48 + y / 10 / 10 % 10) ∷
    (48 + y / 10 % 10) ∷ (48 + y % 10) ∷ []
four_digits y low high =
    rw (
      decimal_step y (omega arith) (omega arith),
      decimal_step (y / 10) (omega arith) (omega arith),
      decimal_step (y / 10 / 10) (omega arith) (omega arith),
      decimal_digit (y / 10 / 10 / 10) (omega arith),
    ) refl

month_spelled : (month : ℕ) → month < 2400 →
    let y = year_of month in let n = month_of_year month in
    month_text month ≡ spelled (y / 10 / 10 / 10) (y / 10 / 10 % 10) (y / 10 % 10) (y % 10) (n / 10) (n % 10)
unfolding spelled
month_spelled month h =
    let y = year_of month in
    let n = month_of_year month in
    rw (
      four_digits y (omega arith) (omega arith),
      decimal_digit (n / 10) (omega arith),
      decimal_digit (n % 10) (omega arith),
    ) refl

pub read_again : (month : ℕ) → month < 2400 → month_of (month_text month) ≡ Ok month
read_again month h =
    let y = year_of month in
    let n = month_of_year month in
    let year : (((0 * 10 + y / 10 / 10 / 10) * 10 + y / 10 / 10 % 10) * 10 + y / 10 % 10) * 10 + y % 10 ≡ y =
    omega arith in
    let number : (0 * 10 + n / 10) * 10 + n % 10 ≡ n = omega arith in
    ap month_of (month_spelled month h)
    ∙ month_of_digits (y / 10 / 10 / 10) (y / 10 / 10 % 10) (y / 10 % 10) (y % 10) (n / 10) (n % 10) (omega arith)
    (omega arith) (omega arith) (omega arith) (omega arith) (omega arith)
    ∙ rw (year, number) (in_calendar month h)
