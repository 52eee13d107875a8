-- The text of an item code from its number.
use Rattle.std.proofs.Common.{◌≡◌, ◌∙◌, sym, refl, ap, ap₂, ℕ, zero, suc, ◌+◌, ◌<◌, ◌≤◌, ◌/◌, ◌%◌, ◌-◌, List, [], ◌∷◌}
use Rattle.std.proofs.Common.{◌++◌, take, get_or, filter, true, Some, arith, lit<, lit≤, add-one}
use Rattle.std.specs.Int.Digits.{number_from_digits, digits_of}
use Rattle.std.proofs.lemmas.Int.Digits.{digits_of_step}
use Rattle.std.proofs.lemmas.List.{take_more, take_all}
use Rattle.cpi_codes.specs.ItemCode.{is_text_of_item, is_character_of_item, item_code_of, with_zero_bytes, is_no_zero}
use Rattle.cpi_codes.proofs.Digits.{passes_at}
use Rattle.cpi_codes.proofs.Bytes.{length_filled, text_parts, text_of_code}
use Rattle.cpi_codes.proofs.Bytes.{bytes_number_more, character_range, last_byte}
use Rattle.cpi_codes.proofs.Bytes.{kept_filled, whole_number}
use Rattle.cpi_wire.specs.Line.{item_text}

-- the number that the first bytes write
abbrev front : List ℕ → ℕ → ℕ
front text k = number_from_digits 256 (take k (with_zero_bytes text))

-- the first byte is no zero, so neither is the number
front_some : (text : List ℕ) → is_text_of_item text ≡ true → (k : ℕ) → k < 12 → 0 < front text (k + 1)
front_some text h zero le =
    let parts = text_parts text h in
    let range = character_range (get_or text 0 0)
    (passes_at is_character_of_item text 0 (omega (arith, parts.0)) parts.2) in
    let more = bytes_number_more text 0 parts.1 (lit< tt) in
    omega (arith, more, range.0)
front_some text h (suc k) le =
    let parts = text_parts text h in
    let more = bytes_number_more text (suc k) parts.1 le in
    let some : 0 < front text (suc k) = rw add-one at (front_some text h k (omega arith)) in
    omega (arith, more, some)

digits_are : (text : List ℕ) → is_text_of_item text ≡ true → (k : ℕ) → k ≤ 12 →
    digits_of 256 (front text k) ≡ take k (with_zero_bytes text)
digits_are text h zero le = refl
digits_are text h (suc k) le =
    let parts = text_parts text h in
    let len = length_filled text parts.1 in
    let some = front_some text h k (omega arith) in
    let last = last_byte text (k + 1) (front text (k + 1)) h (omega arith) (omega arith) refl in
    let less : k + 1 - 1 ≡ k = omega arith in
    let rest : front text (k + 1) / 256 ≡ front text k = last.0 ∙ ap (front text) less in
    let byte : front text (k + 1) % 256 ≡ get_or (with_zero_bytes text) k 0 = last.1 ∙ ap
    (λ n. get_or (with_zero_bytes text) n 0) less in
    let step = digits_of_step 256 (front text (k + 1)) (lit≤ tt) some in
    let whole : digits_of 256 (front text (k + 1)) ≡ take (k + 1) (with_zero_bytes text) =
    step ∙ ap₂ (λ (xs : List ℕ) n. xs ++ n ∷ []) (ap (digits_of 256) rest ∙ digits_are text h k (omega arith)) byte
    ∙ sym (take_more (with_zero_bytes text) k 0 (omega (arith, len))) in
    rw add-one at whole

pub text_is : (text : List ℕ) (code : ℕ) → item_code_of text ≡ Some code → text ≡ item_text code
text_is text code h =
    let is = text_of_code text code h in
    let len = length_filled text (text_parts text is.0).1 in
    sym (ap (λ n. filter is_no_zero (digits_of 256 n)) (whole_number text code h)
    ∙ ap (filter is_no_zero) (digits_are text is.0 12 (lit≤ tt) ∙ take_all 12 (with_zero_bytes text) (omega arith))
    ∙ kept_filled text is.0)
