-- A key has one text.
use Rattle.std.proofs.Common.{◌≡◌, ◌∙◌, sym, refl, ℕ, ◌+◌, ◌*◌, ◌<◌, List, [], ◌∷◌, length, true, ◌&&◌, ◌==◌, Some}
use Rattle.std.proofs.Common.{arith}
use Rattle.std.proofs.lemmas.Bool.Decides.{nat_tests}
use Rattle.std.specs.List.{list_all}
use Rattle.std.specs.Char.{digit_value}
use Rattle.std.specs.Str.Parse.{digits_value, digits_value_after}
use Rattle.cpi_rows.proofs.Truth.{and_both}
use Rattle.cpi_codes.specs.Key.{is_digit_of_key, key_of}
use Rattle.cpi_codes.proofs.Choices.{chosen}

digit_lt : (c : ℕ) → is_digit_of_key c ≡ true → digit_value c < 16
digit_lt c h = grind (arith, nat_tests)

digit_one : (a b : ℕ) → is_digit_of_key a ≡ true → is_digit_of_key b ≡ true → digit_value a ≡ digit_value b → a ≡ b
digit_one a b p q e = grind (arith, nat_tests)

-- as many digits write one number only where they are the same
same_digits : (m n : ℕ) (a b : List ℕ) → list_all is_digit_of_key a ≡ true → list_all is_digit_of_key b ≡ true →
    length a ≡ length b → digits_value_after 16 m a ≡ digits_value_after 16 n b → (m ≡ n) × (a ≡ b)
same_digits m n [] [] p q l e = (e, refl)
same_digits m n [] (y ∷ ys) p q l e = absurd (omega arith)
same_digits m n (x ∷ xs) [] p q l e = absurd (omega arith)
same_digits m n (x ∷ xs) (y ∷ ys) p q l e =
    let px = and_both (is_digit_of_key x) (list_all is_digit_of_key xs) p in
    let qy = and_both (is_digit_of_key y) (list_all is_digit_of_key ys) q in
    let len : length xs ≡ length ys = omega arith in
    let rest = same_digits (m * 16 + digit_value x) (n * 16 + digit_value y) xs ys px.1 qy.1 len e in
    let dx = digit_lt x px.0 in
    let dy = digit_lt y qy.0 in
    let front : m ≡ n = omega arith in
    let digit : digit_value x ≡ digit_value y = omega arith in
    let one : x ≡ y = digit_one x y px.0 qy.0 digit in
    let tail = rest.1 in
    (front, cc)

pub one_spelling : (key : ℕ) (a b : List ℕ) → key_of a ≡ Some key → key_of b ≡ Some key → a ≡ b
one_spelling key a b p q =
    let ra = chosen (length a == 32 && list_all is_digit_of_key a) (digits_value 16 a) key p in
    let rb = chosen (length b == 32 && list_all is_digit_of_key b) (digits_value 16 b) key q in
    let ta = and_both (length a == 32) (list_all is_digit_of_key a) ra.0 in
    let tb = and_both (length b == 32) (list_all is_digit_of_key b) rb.0 in
    let la : length a ≡ 32 = grind (arith, nat_tests, ta.0) in
    let lb : length b ≡ 32 = grind (arith, nat_tests, tb.0) in
    (same_digits 0 0 a b ta.1 tb.1 (omega arith) (sym ra.1 ∙ rb.1)).1
