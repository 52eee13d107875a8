-- A month has one text.
use Rattle.std.proofs.Common.{◌≡◌, ◌∙◌, sym, refl, ℕ, ◌+◌, ◌-◌, ◌*◌, ◌/◌, ◌%◌, ◌≤◌, List, [], ◌∷◌, length, get_or, take}
use Rattle.std.proofs.Common.{drop, slice_index, Bool, true, false, ◌&&◌, ◌==◌, nat_le, cond, Result, Ok, Err, arith}
use Rattle.std.proofs.lemmas.Bool.Decides.{nat_tests}
use Rattle.std.proofs.lemmas.Str.{digit_value_digit}
use Rattle.std.proofs.lemmas.Fmt.{decimal-digits_value, decimal_digit}
use Rattle.std.specs.Fmt.{decimal}
use Rattle.std.specs.List.{list_all}
use Rattle.std.specs.Char.{is_ascii_digit, digit_value}
use Rattle.std.specs.Str.Parse.{digits_value}
use Rattle.cpi_rows.proofs.Truth.{and_both}
use Rattle.cpi_codes.specs.declared.months.MonthFault.{MonthFault}
use Rattle.cpi_codes.specs.declared.months.MonthFault.TheVariants.{Shape, Range}
use Rattle.cpi_codes.specs.Month.{below_hundred, year_of, month_of_year, month_text, month_in, month_of, is_in_calendar}
use Rattle.cpi_codes.specs.Month.{has_month_shape, months_since_2000}
use Rattle.cpi_codes.proofs.Digits.{digit_range}
use Rattle.cpi_codes.proofs.NumberTexts.{model, all_same}

chosen : (b : Bool) (r : Result ℕ MonthFault) (f : MonthFault) (n : ℕ) → cond b r (Err f) ≡ Ok n → (b ≡ true)
    × (r ≡ Ok n)
chosen true r f n h = (refl, h)
chosen false r f n h = absurd cc

four : (a b c d : Bool) → (a && b && c && d) ≡ true → (a ≡ true) × (b ≡ true) × (c ≡ true) × (d ≡ true)
four true true true true h = (refl, refl, refl, refl)
four true true true false h = absurd cc
four true true false d h = absurd cc
four true false c d h = absurd cc
four false b c d h = absurd cc

four_listed : (a b c d : Bool) → (a && (b && (c && (d && true)))) ≡ true → (a ≡ true) × (b ≡ true) × (c ≡ true)
    × (d ≡ true)
four_listed true true true true h = (refl, refl, refl, refl)
four_listed true true true false h = absurd cc
four_listed true true false d h = absurd cc
four_listed true false c d h = absurd cc
four_listed false b c d h = absurd cc

-- the year and the month of the year of a month that was found
found : (year number month : ℕ) → month_in year number ≡ Ok month → (2000 ≤ year) × (year ≤ 2199)
    × (year ≡ year_of month) × (number ≡ month_of_year month)
found year number month h =
    let made = chosen (is_in_calendar year number) (Ok (months_since_2000 year number)) Range month h in
    let tests = four (nat_le 2000 year) (nat_le year 2199) (nat_le 1 number) (nat_le number 12) made.0 in
    let first : 2000 ≤ year = grind (arith, nat_tests, tests.0) in
    let last : year ≤ 2199 = grind (arith, nat_tests, tests.1) in
    let low : 1 ≤ number = grind (arith, nat_tests, tests.2) in
    let high : number ≤ 12 = grind (arith, nat_tests, tests.3) in
    let is : months_since_2000 year number ≡ month = cc (made.1) in
    (first, last, omega arith, omega arith)

-- four digits from 2000 on are what is printed of their number
printed_year : (a b c d : ℕ) → list_all is_ascii_digit (a ∷ b ∷ c ∷ d ∷ []) ≡ true →
    2000 ≤ digits_value 10 (a ∷ b ∷ c ∷ d ∷ []) → digits_value 10 (a ∷ b ∷ c ∷ d ∷ []) ≤ 2199 →
    decimal (digits_value 10 (a ∷ b ∷ c ∷ d ∷ [])) ≡ a ∷ b ∷ c ∷ d ∷ []
printed_year a b c d digits low high =
    let ds = a ∷ b ∷ c ∷ d ∷ [] in
    let tests = four_listed (is_ascii_digit a) (is_ascii_digit b) (is_ascii_digit c) (is_ascii_digit d) digits in
    let wa = digit_value_digit a (digit_range a tests.0) in
    let wb = digit_value_digit b (digit_range b tests.1) in
    let rb = digit_range b tests.1 in
    let wc = digit_value_digit c (digit_range c tests.2) in
    let rc = digit_range c tests.2 in
    let rd = digit_range d tests.3 in
    let wd = digit_value_digit d rd in
    let one : get_or ds 0 0 ≡ 48 → length ds ≡ 1 = λ (e : a ≡ 48). absurd (omega arith) in
    decimal-digits_value model ds (sym (all_same ds) ∙ digits) (omega arith) one (omega arith)

two_printed : (e f : ℕ) → is_ascii_digit e ≡ true → is_ascii_digit f ≡ true →
    below_hundred (digits_value 10 (e ∷ f ∷ [])) ≡ e ∷ f ∷ []
two_printed e f he hf =
    let re = digit_range e he in
    let rf = digit_range f hf in
    let we = digit_value_digit e re in
    let wf = digit_value_digit f rf in
    let n = (0 * 10 + digit_value e) * 10 + digit_value f in
    let tens : n / 10 ≡ e - 48 = omega arith in
    let ones : n % 10 ≡ f - 48 = omega arith in
    let te : 48 + (e - 48) ≡ e = omega arith in
    let tf : 48 + (f - 48) ≡ f = omega arith in
    rw (tens, ones, decimal_digit (e - 48) (omega arith), decimal_digit (f - 48) (omega arith), te, tf) refl

pub one_spelling : (month : ℕ) (text : List ℕ) → month_of text ≡ Ok month → text ≡ month_text month
one_spelling month [] h = absurd cc
one_spelling month (a ∷ []) h = absurd cc
one_spelling month (a ∷ b ∷ []) h = absurd cc
one_spelling month (a ∷ b ∷ c ∷ []) h = absurd cc
one_spelling month (a ∷ b ∷ c ∷ d ∷ []) h = absurd cc
one_spelling month (a ∷ b ∷ c ∷ d ∷ s ∷ []) h = absurd cc
one_spelling month (a ∷ b ∷ c ∷ d ∷ s ∷ e ∷ []) h = absurd cc
one_spelling month (a ∷ b ∷ c ∷ d ∷ s ∷ e ∷ f ∷ []) h =
    let text = a ∷ b ∷ c ∷ d ∷ s ∷ e ∷ f ∷ [] in
    let year = digits_value 10 (a ∷ b ∷ c ∷ d ∷ []) in
    let number = digits_value 10 (e ∷ f ∷ []) in
    let read = chosen (has_month_shape text) (month_in year number) Shape month h in
    let shape = four (length text == 7) (list_all is_ascii_digit (take 4 text)) (slice_index text 4 == 45)
    (list_all is_ascii_digit (drop 5 text)) read.0 in
    let dash : s ≡ 45 = grind (arith, nat_tests, shape.2) in
    let digits = and_both (is_ascii_digit e) (is_ascii_digit f && true) shape.3 in
    let last = and_both (is_ascii_digit f) true digits.1 in
    let is = found year number month read.1 in
    let front = printed_year a b c d shape.1 is.0 is.1 in
    let back = two_printed e f digits.0 last.0 in
    sym (rw (← is.2, ← is.3, front, back, dash) refl)
one_spelling month (a ∷ b ∷ c ∷ d ∷ s ∷ e ∷ f ∷ g ∷ rest) h =
    let text = a ∷ b ∷ c ∷ d ∷ s ∷ e ∷ f ∷ g ∷ rest in
    let read = chosen (has_month_shape text) (month_in (digits_value 10 (take 4 text)) (digits_value 10 (drop 5 text)))
    Shape month h in
    let shape = four (length text == 7) (list_all is_ascii_digit (take 4 text)) (slice_index text 4 == 45)
    (list_all is_ascii_digit (drop 5 text)) read.0 in
    let seven : length text ≡ 7 = grind (arith, nat_tests, shape.0) in
    absurd (omega arith)
