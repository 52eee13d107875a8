-- The order of item codes.
use Rattle.std.proofs.Common.{◌≡◌, ◌∙◌, sym, refl, ap, ℕ, zero, suc, ◌+◌, ◌*◌, ◌-◌, ◌^◌, ◌<◌, ◌≤◌, List, ◌++◌, [], ◌∷◌}
use Rattle.std.proofs.Common.{length, replicate, true, Some, inl, inr, arith, lit<, length-append}
use Rattle.std.proofs.lemmas.List.{length-replicate}
use Rattle.std.proofs.Math.Nat.{pow-succ', mul-le-mul_right, suc-mul, add-mul, mul_assoc, pow-le-pow_right}
use Rattle.std.proofs.lemmas.Slice.Eq.{bytes_eq-Decides}
use Rattle.std.proofs.lemmas.Map.Text.{is_eq-slice_cmp}
use Rattle.std.specs.Int.Digits.{number_from_digits, number_from_digits_after}
use Rattle.std.specs.List.{list_all}
use Rattle.std.specs.declared.cmp.Ordering.TheVariants.{Less, Equal, Greater}
use Rattle.std.specs.Ordering.{nat_cmp, ordering_then, is_eq}
use Rattle.std.specs.Cmp.{nat_cmp_is}
use Rattle.std.specs.Cmp.Lexicographic.{slice_cmp}
use Rattle.std.proofs.lemmas.Bool.{cases_order}
use Rattle.cpi_rows.proofs.Truth.{and_both, less_of_lt}
use Rattle.cpi_codes.specs.ItemCode.{is_character_of_item, item_code_of}
use Rattle.cpi_codes.proofs.Bytes.{text_of_code, text_parts, character_range}

-- the first of the bytes counts most
after_head : (n : ℕ) (xs : List ℕ) → number_from_digits_after 256 n xs ≡ n * 256 ^ length xs +
    number_from_digits_after 256 0 xs
after_head n [] = grind arith
after_head n (x ∷ xs) =
    let p = 256 ^ length xs in
    let first = after_head (n * 256 + x) xs in
    let second = after_head (0 * 256 + x) xs in
    let more = add-mul (n * 256) x p in
    let moved = mul_assoc n 256 p in
    let power = ap (λ (z : ℕ). n * z) (pow-succ' 256 (length xs)) in
    let alone : 0 * 256 + x ≡ x = omega arith in
    let product = ap (λ (z : ℕ). z * p) alone in
    omega arith

-- the number that bytes write in so many places
pub weighed : ℕ → List ℕ → ℕ
weighed zero text = 0
weighed (suc k) [] = 0
weighed (suc k) (x ∷ xs) = x * 256 ^ k + weighed k xs

zeros_weigh : (k : ℕ) → number_from_digits 256 (replicate k 0) ≡ 0
zeros_weigh zero = refl
zeros_weigh (suc k) = zeros_weigh k

weighs : (k : ℕ) (text : List ℕ) → length text ≤ k →
    number_from_digits 256 (text ++ replicate (k - length text) 0) ≡ weighed k text
unfolding weighed
weighs zero [] h = refl
weighs zero (x ∷ xs) h = absurd (omega arith)
weighs (suc k) [] h =
    let all : suc k - 0 ≡ suc k = omega arith in
    ap (λ (n : ℕ). number_from_digits 256 (replicate n 0)) all ∙ zeros_weigh (suc k)
weighs (suc k) (x ∷ xs) h =
    let rest = weighs k xs (omega arith) in
    let ys = xs ++ replicate (k - length xs) 0 in
    let len : length ys ≡ k = simp (length-append, length-replicate) (omega arith) in
    let left : suc k - suc (length xs) ≡ k - length xs = omega arith in
    let alone : 0 * 256 + x ≡ x = omega arith in
    let product = ap (λ (n : ℕ). x * 256 ^ n) len in
    ap (λ (n : ℕ). number_from_digits 256 (x ∷ (xs ++ replicate n 0))) left
    ∙ ap (λ (n : ℕ). number_from_digits_after 256 n ys) alone
    ∙ after_head x ys
    ∙ omega arith

positive : (k : ℕ) → 0 < 256 ^ k
positive k =
    let base : 0 < 256 = lit< tt in
    let from : 0 ≤ k = omega arith in
    let most = pow-le-pow_right base from in
    omega arith

weighed_lt : (k : ℕ) (text : List ℕ) → list_all is_character_of_item text ≡ true → weighed k text < 256 ^ k
unfolding weighed
weighed_lt zero text h = lit< tt
weighed_lt (suc k) [] h = positive (suc k)
weighed_lt (suc k) (x ∷ xs) h =
    let parts = and_both (is_character_of_item x) (list_all is_character_of_item xs) h in
    let rest = weighed_lt k xs parts.1 in
    let range = character_range x parts.0 in
    let power = pow-succ' 256 k in
    let within : suc x ≤ 256 = omega arith in
    let most = mul-le-mul_right (256 ^ k) within in
    let one = suc-mul x (256 ^ k) in
    omega arith

equal : (a b : ℕ) → a ≡ b → nat_cmp a b ≡ Equal
equal a b h = sym (nat_cmp_is a b Equal h)

greater : (a b : ℕ) → b < a → nat_cmp a b ≡ Greater
greater a b h = sym (nat_cmp_is a b Greater h)

-- the first digits decide where they differ
more_first : (p x y u v : ℕ) → u < p → x < y → x * p + u < y * p + v
more_first p x y u v small h =
    let within : suc x ≤ y = omega arith in
    let most = mul-le-mul_right p within in
    let one = suc-mul x p in
    omega arith

same_first : (p x u v : ℕ) → nat_cmp (x * p + u) (x * p + v) ≡ nat_cmp u v
same_first p x u v = elim (cases_order u v) [
  | inl same ↦ equal (x * p + u) (x * p + v) (omega arith) ∙ sym (equal u v same)
  | inr differ ↦ elim differ [
    | inl below ↦ less_of_lt (x * p + u) (x * p + v) (omega arith) ∙ sym (less_of_lt u v below)
    | inr above ↦ greater (x * p + u) (x * p + v) (omega arith) ∙ sym (greater u v above)
  ]
]

by_digits : (p x y u v : ℕ) → u < p → v < p → nat_cmp (x * p + u) (y * p + v) ≡ ordering_then (nat_cmp x y)
    (nat_cmp u v)
by_digits p x y u v small tiny = elim (cases_order x y) [
  | inl same ↦ rw (equal x y same) (rw same (same_first p y u v))
  | inr differ ↦ elim differ [
    | inl below ↦ rw (less_of_lt x y below) (less_of_lt (x * p + u) (y * p + v) (more_first p x y u v small below))
    | inr above ↦ rw (greater x y above) (greater (x * p + u) (y * p + v) (more_first p y x v u tiny above))
  ]
]

-- the numbers stand in the order of the texts
pub weighed_order : (k : ℕ) (a b : List ℕ) → length a ≤ k → length b ≤ k → list_all is_character_of_item a ≡ true →
    list_all is_character_of_item b ≡ true → nat_cmp (weighed k a) (weighed k b) ≡ slice_cmp nat_cmp a b
unfolding weighed
weighed_order zero [] [] la lb ca cb = refl
weighed_order zero (x ∷ xs) b la lb ca cb = absurd (omega arith)
weighed_order zero [] (y ∷ ys) la lb ca cb = absurd (omega arith)
weighed_order (suc k) [] [] la lb ca cb = refl
weighed_order (suc k) [] (y ∷ ys) la lb ca cb =
    let parts = and_both (is_character_of_item y) (list_all is_character_of_item ys) cb in
    let range = character_range y parts.0 in
    let low : suc 0 ≤ y = omega arith in
    let most = mul-le-mul_right (256 ^ k) low in
    let one = suc-mul 0 (256 ^ k) in
    let some = positive k in
    less_of_lt 0 (y * 256 ^ k + weighed k ys) (omega arith)
weighed_order (suc k) (x ∷ xs) [] la lb ca cb =
    let parts = and_both (is_character_of_item x) (list_all is_character_of_item xs) ca in
    let range = character_range x parts.0 in
    let low : suc 0 ≤ x = omega arith in
    let most = mul-le-mul_right (256 ^ k) low in
    let one = suc-mul 0 (256 ^ k) in
    let some = positive k in
    greater (x * 256 ^ k + weighed k xs) 0 (omega arith)
weighed_order (suc k) (x ∷ xs) (y ∷ ys) la lb ca cb =
    let pa = and_both (is_character_of_item x) (list_all is_character_of_item xs) ca in
    let pb = and_both (is_character_of_item y) (list_all is_character_of_item ys) cb in
    by_digits (256 ^ k) x y (weighed k xs) (weighed k ys) (weighed_lt k xs pa.1) (weighed_lt k ys pb.1)
    ∙ ap (ordering_then (nat_cmp x y)) (weighed_order k xs ys (omega arith) (omega arith) pa.1 pb.1)

pub codes_in_order : (x y : ℕ) (a b : List ℕ) → item_code_of a ≡ Some x → item_code_of b ≡ Some y →
    nat_cmp x y ≡ slice_cmp nat_cmp a b
codes_in_order x y a b p q =
    let ca = text_of_code a x p in
    let cb = text_of_code b y q in
    let ta = text_parts a ca.0 in
    let tb = text_parts b cb.0 in
    let wa : x ≡ weighed 12 a = ca.1 ∙ weighs 12 a ta.1 in
    let wb : y ≡ weighed 12 b = cb.1 ∙ weighs 12 b tb.1 in
    rw (wa, wb) (weighed_order 12 a b ta.1 tb.1 ta.2 tb.2)

pub codes_are_one : (code : ℕ) (a b : List ℕ) → item_code_of a ≡ Some code → item_code_of b ≡ Some code → a ≡ b
codes_are_one code a b p q =
    let order = sym (codes_in_order code code a b p q) ∙ equal code code refl in
    (bytes_eq-Decides a b).0 (sym (is_eq-slice_cmp a b) ∙ ap is_eq order)
