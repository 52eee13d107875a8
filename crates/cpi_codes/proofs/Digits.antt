-- Digits, one after another.
use Rattle.std.proofs.Common.{◌≡◌, ℕ, ◌+◌, ◌*◌, ◌-◌, ◌^◌, ◌<◌, ◌≤◌, List, length, take, get_or, Bool, true, arith, lit<}
use Rattle.std.specs.List.{list_all}
use Rattle.std.specs.Char.{is_ascii_digit, digit_value}
use Rattle.std.specs.Str.Parse.{digits_value}
use Rattle.std.proofs.lemmas.Bool.Decides.{nat_tests}
use Rattle.std.proofs.lemmas.List.Sums.{AllPass-from_list_all}
use Rattle.std.proofs.lemmas.Int.Digits.{digits_value_more}
use Rattle.std.proofs.lemmas.Str.{digit_value_digit}
use Rattle.std.proofs.lemmas.Grind.{pow_more}
use Rattle.std.proofs.Math.Nat.{pow-le-pow_right}

-- each element passes the test that all pass
pub passes_at : (p : ℕ → Bool) (xs : List ℕ) (i : ℕ) → i < length xs → list_all p xs ≡ true → p (get_or xs i 0) ≡ true
passes_at p xs i here all = AllPass-from_list_all p xs all i 0 here

pub digit_range : (c : ℕ) → is_ascii_digit c ≡ true → (48 ≤ c) × (c ≤ 57)
digit_range c h = grind (arith, nat_tests)

-- what one more decimal digit adds
pub decimal_more : (ds : List ℕ) (i : ℕ) → i < length ds → list_all is_ascii_digit ds ≡ true →
    digits_value 10 (take (i + 1) ds) ≡ 10 * digits_value 10 (take i ds) + (get_or ds i 0 - 48)
decimal_more ds i here all =
    let more = digits_value_more 10 ds i here in
    let range = digit_range _ (passes_at is_ascii_digit ds i here all) in
    let value = digit_value_digit (get_or ds i 0) range in
    omega arith

-- what one more digit of a key adds
pub key_more : (ds : List ℕ) (i : ℕ) → i < length ds → digits_value 16 (take (i + 1) ds) ≡ 16 * digits_value 16
    (take i ds) + digit_value (get_or ds i 0)
key_more ds i here = let more = digits_value_more 16 ds i here in omega arith

pub power_more : (k value digit : ℕ) → value < 16 ^ k → digit < 16 → 16 * value + digit < 16 ^ (k + 1)
power_more k value digit h b = let more = pow_more 16 k in omega arith

-- 32 digits are a number of 128 bits
pub power_le : (k : ℕ) → k < 32 → 16 ^ (k + 1) ≤ 2 ^ 128
power_le k h =
    let within : k + 1 ≤ 32 = omega arith in
    let base : 0 < 16 = lit< tt in
    let most = pow-le-pow_right base within in
    omega arith
