-- The bytes of item codes.
use Rattle.std.proofs.Common.{◌≡◌, ◌∙◌, sym, refl, ap, ℕ, suc, ◌+◌, ◌*◌, ◌-◌, ◌^◌, ◌<◌, ◌≤◌, List, ◌++◌, [], ◌∷◌}
use Rattle.std.proofs.Common.{length, take, replicate, get_or, true, nat_le, set, Some, inl, inr, filter, ◌/◌, ◌%◌}
use Rattle.std.proofs.Common.{arith, lit<, length-append, zero}
use Rattle.std.proofs.lemmas.List.{length-replicate}
use Rattle.std.proofs.Math.Nat.{pow-le-pow_right}
use Rattle.std.proofs.lemmas.Grind.{pow_more}
use Rattle.std.specs.Int.Digits.{number_from_digits}
use Rattle.std.proofs.lemmas.Int.Digits.{number_more}
use Rattle.std.specs.List.{list_all}
use Rattle.std.specs.Char.{is_ascii}
use Rattle.std.proofs.lemmas.Bool.{cases_lt}
use Rattle.std.proofs.lemmas.Bool.Decides.{nat_tests}
use Rattle.std.proofs.lemmas.List.{get_or_past, take_all, get_or-set_same, get_or-set_other}
use Rattle.cpi_rows.proofs.Truth.{and_both}
use Rattle.cpi_codes.specs.ItemCode.{is_character_of_item, is_text_of_item, item_code_of, item_number, with_zero_bytes}
use Rattle.cpi_codes.specs.ItemCode.{is_no_zero}
use Rattle.cpi_codes.proofs.Choices.{all_three, chosen}
use Rattle.cpi_codes.proofs.Digits.{passes_at}

pub code_of_text : (text : List ℕ) → is_text_of_item text ≡ true → item_code_of text ≡ Some (item_number text)
unfolding item_code_of
code_of_text text h = rw h refl

pub length_filled : (text : List ℕ) → length text ≤ 12 → length (with_zero_bytes text) ≡ 12
length_filled text h = simp (length-append, length-replicate) (omega arith)

zeros_at : (k i : ℕ) → get_or {A = ℕ} (replicate k 0) i 0 ≡ 0
zeros_at zero i = refl
zeros_at (suc k) zero = refl
zeros_at (suc k) (suc i) = zeros_at k i

with_zeros_at : (text : List ℕ) (k i : ℕ) → get_or (text ++ replicate k 0) i 0 ≡ get_or text i 0
with_zeros_at [] k i = zeros_at k i
with_zeros_at (x ∷ xs) k zero = refl
with_zeros_at (x ∷ xs) k (suc i) = with_zeros_at xs k i

-- past the end of the text there are zeros
pub filled_at : (text : List ℕ) (i : ℕ) → get_or (with_zero_bytes text) i 0 ≡ get_or text i 0
filled_at text i = with_zeros_at text (12 - length text) i

-- what one more byte adds
pub bytes_number_more : (text : List ℕ) (i : ℕ) → length text ≤ 12 → i < 12 →
    number_from_digits 256 (take (i + 1) (with_zero_bytes text)) ≡ 256 * number_from_digits 256
    (take i (with_zero_bytes text)) + get_or text i 0
bytes_number_more text i short here =
    let len = length_filled text short in
    let more = number_more 256 (with_zero_bytes text) i (omega arith) in
    let at = filled_at text i in
    omega arith

pub power_more : (k value byte : ℕ) → value < 256 ^ k → byte < 256 → 256 * value + byte < 256 ^ (k + 1)
power_more k value byte h b = let more = pow_more 256 k in omega arith

-- 12 bytes are a number of 96 bits
pub power_le : (k : ℕ) → k < 12 → 256 ^ (k + 1) ≤ 2 ^ 96
power_le k h =
    let within : k + 1 ≤ 12 = omega arith in
    let base : 0 < 256 = lit< tt in
    let most = pow-le-pow_right base within in
    omega arith

-- a text that writes a code is one of an item, and its number is the code
pub text_of_code : (text : List ℕ) (code : ℕ) → item_code_of text ≡ Some code → (is_text_of_item text ≡ true)
    × (code ≡ item_number text)
unfolding item_code_of
text_of_code text code h = chosen (is_text_of_item text) (item_number text) code h

pub text_parts : (text : List ℕ) → is_text_of_item text ≡ true → (1 ≤ length text) × (length text ≤ 12)
    × (list_all is_character_of_item text ≡ true)
text_parts text h =
    let parts = all_three (nat_le 1 (length text)) (nat_le (length text) 12) (list_all is_character_of_item text) h in
    (grind (arith, nat_tests, parts.0), grind (arith, nat_tests, parts.1), parts.2)

pub character_range : (c : ℕ) → is_character_of_item c ≡ true → (48 ≤ c) × (c ≤ 90)
character_range c h = (grind (arith, nat_tests), grind (arith, nat_tests))

pub filled_lt : (text : List ℕ) → is_text_of_item text ≡ true → (i : ℕ) → get_or (with_zero_bytes text) i 0 < 128
filled_lt text h i = rw (filled_at text i) (elim (cases_lt i (length text)) [
  | inl here ↦ (let range = character_range (get_or text i 0)
      (passes_at is_character_of_item text i here (text_parts text h).2) in omega arith)
  | inr past ↦ rw (get_or_past text i 0 past) (lit< tt)
])

-- the last byte, and the bytes before it
pub last_byte : (text : List ℕ) (place rest : ℕ) → is_text_of_item text ≡ true → 0 < place → place ≤ 12 →
    rest ≡ number_from_digits 256 (take place (with_zero_bytes text)) →
    (rest / 256 ≡ number_from_digits 256 (take (place - 1) (with_zero_bytes text)))
    × (rest % 256 ≡ get_or (with_zero_bytes text) (place - 1) 0)
last_byte text place rest h low high e =
    let i = place - 1 in
    let whole : i + 1 ≡ place = omega arith in
    let len = length_filled text (text_parts text h).1 in
    let more = rw whole at (number_more 256 (with_zero_bytes text) i (omega arith)) in
    let small = filled_lt text h i in
    (omega arith, omega arith)

-- the last byte is written, and those after it stay
pub set_at : (xs ys : List ℕ) (i k byte : ℕ) → length xs ≡ 12 → i < 12 → byte ≡ get_or ys i 0 →
    ((j : ℕ) → i < j → j < 12 → get_or xs j 0 ≡ get_or ys j 0) → i ≤ k → k < 12 →
    get_or (set xs i byte) k 0 ≡ get_or ys k 0
set_at xs ys i k byte len here is after low high = elim (cases_lt i k) [
  | inl later ↦ get_or-set_other xs i k byte 0 (omega arith) ∙ after k later high
  | inr last ↦ (let same : k ≡ i = omega arith in rw same (get_or-set_same xs i byte 0 (omega arith) ∙ is))
]

ascii_zeros : (k : ℕ) → list_all is_ascii (replicate k 0) ≡ true
ascii_zeros zero = refl
ascii_zeros (suc k) = ascii_zeros k

ascii_text : (text : List ℕ) (k : ℕ) → list_all is_character_of_item text ≡ true →
    list_all is_ascii (text ++ replicate k 0) ≡ true
ascii_text [] k h = ascii_zeros k
ascii_text (c ∷ cs) k h =
    let parts = and_both (is_character_of_item c) (list_all is_character_of_item cs) h in
    let range = character_range c parts.0 in
    let small : is_ascii c ≡ true = grind (arith, nat_tests) in
    rw small (ascii_text cs k parts.1)

pub ascii_filled : (text : List ℕ) → is_text_of_item text ≡ true → list_all is_ascii (with_zero_bytes text) ≡ true
ascii_filled text h = ascii_text text (12 - length text) (text_parts text h).2

no_zeros : (k : ℕ) → filter is_no_zero (replicate k 0) ≡ []
no_zeros zero = refl
no_zeros (suc k) = no_zeros k

kept_text : (text : List ℕ) (k : ℕ) → list_all is_character_of_item text ≡ true →
    filter is_no_zero (text ++ replicate k 0) ≡ text
kept_text [] k h = no_zeros k
kept_text (c ∷ cs) k h =
    let parts = and_both (is_character_of_item c) (list_all is_character_of_item cs) h in
    let range = character_range c parts.0 in
    let stays : is_no_zero c ≡ true = grind (arith, nat_tests) in
    rw stays (ap (λ (t : List ℕ). c ∷ t) (kept_text cs k parts.1))

-- what fills a text up is all that is zero in it
pub kept_filled : (text : List ℕ) → is_text_of_item text ≡ true → filter is_no_zero (with_zero_bytes text) ≡ text
kept_filled text h = kept_text text (12 - length text) (text_parts text h).2

pub whole_number : (text : List ℕ) (code : ℕ) → item_code_of text ≡ Some code →
    code ≡ number_from_digits 256 (take 12 (with_zero_bytes text))
whole_number text code h =
    let is = text_of_code text code h in
    let len = length_filled text (text_parts text is.0).1 in
    let all = take_all 12 (with_zero_bytes text) (omega arith) in
    is.1 ∙ ap (number_from_digits 256) (sym all)
