-- Numbers and their decimal texts.
use Rattle.std.proofs.Common.{◌≡◌, ◌∙◌, sym, refl, ap, ℕ, ◌^◌, ◌<◌, ◌≤◌, ◌==◌, ◌&&◌, ◌||◌, not, nat_le, List, [], ◌∷◌}
use Rattle.std.proofs.Common.{length, get_or, slice_index, Bool, true, false, Some, inl, inr, arith, lit<}
use Rattle.std.specs.List.{list_all}
use Rattle.std.specs.Char.{is_ascii_digit}
use Rattle.std.specs.Str.{all_ascii_digits}
use Rattle.std.specs.Str.Parse.{digits_value}
use Rattle.std.specs.Fmt.{decimal}
use Rattle.std.proofs.lemmas.Bool.{cases_lt}
use Rattle.std.proofs.lemmas.Bool.Decides.{nat_tests}
use Rattle.std.proofs.lemmas.Str.Parse.{IsNumeralModel, numerals_by_value, tells_all_ascii_digits}
use Rattle.std.proofs.lemmas.Fmt.{digits_decimal, digits_value-decimal, decimal-digits_value, decimal_nonempty}
use Rattle.std.proofs.lemmas.Fmt.{first_decimal, decimal_digit}
use Rattle.cpi_codes.proofs.Choices.{all_three, chosen}
use Rattle.cpi_codes.specs.Number.{is_number_text, number_in}

pub model : IsNumeralModel (λ ds. all_ascii_digits ds ≡ true) (digits_value 10)
model = numerals_by_value (λ ds. all_ascii_digits ds ≡ true) tells_all_ascii_digits

pub all_same : (ds : List ℕ) → list_all is_ascii_digit ds ≡ all_ascii_digits ds
all_same [] = refl
all_same (d ∷ ds) = ap (λ (b : Bool). is_ascii_digit d && b) (all_same ds)

or_true : (b : Bool) → (b || true) ≡ true
or_true true = refl
or_true false = refl

decimal_first : (n : ℕ) → n < 2 ^ 64 → ((length (decimal n) == 1) || not (slice_index (decimal n) 0 == 48)) ≡ true
decimal_first n h = elim (cases_lt 0 n) [
  | inl above ↦ (let first = first_decimal n above h in
      let differs : (get_or (decimal n) 0 0 == 48) ≡ false = grind (arith, nat_tests) in
      rw differs (or_true (length (decimal n) == 1)))
  | inr none ↦ (let zero-is : n ≡ 0 = omega arith in rw (zero-is, decimal_digit 0 (lit< tt)) refl)
]

pub decimal_is_number : (n : ℕ) → n < 2 ^ 64 → is_number_text (decimal n) ≡ true
decimal_is_number n h =
    let digits = all_same (decimal n) ∙ digits_decimal model n h in
    let some = decimal_nonempty n h in
    let filled : not (length (decimal n) == 0) ≡ true = grind (arith, nat_tests) in
    rw (filled, digits) (decimal_first n h)

pub read_again : (low high n : ℕ) → low ≤ n → n ≤ high → n < 2 ^ 64 → number_in low high (decimal n) ≡ Some n
unfolding number_in
read_again low high n l h small =
    let above : nat_le low n ≡ true = grind (arith, nat_tests) in
    let below : nat_le n high ≡ true = grind (arith, nat_tests) in
    rw (decimal_is_number n small, digits_value-decimal model n small, above, below) refl

pub one_spelling : (low high n : ℕ) (text : List ℕ) → n < 2 ^ 64 → number_in low high text ≡ Some n → text ≡ decimal n
unfolding number_in
one_spelling low high n text small h =
    let read = chosen (is_number_text text && nat_le low (digits_value 10 text) && nat_le (digits_value 10 text) high)
    (digits_value 10 text) n h in
    let tests = all_three (is_number_text text) (nat_le low (digits_value 10 text))
    (nat_le (digits_value 10 text) high) read.0 in
    let number = all_three (not (length text == 0)) (list_all is_ascii_digit text)
    ((length text == 1) || not (slice_index text 0 == 48)) tests.0 in
    let some : 0 < length text = grind (arith, nat_tests, number.0) in
    let one : get_or text 0 0 ≡ 48 → length text ≡ 1 = λ e. grind (arith, nat_tests, number.2, e) in
    let value : digits_value 10 text < 2 ^ 64 = rw (← read.1) small in
    sym (decimal-digits_value model text (sym (all_same text) ∙ number.1) some one value) ∙ ap decimal (sym read.1)
