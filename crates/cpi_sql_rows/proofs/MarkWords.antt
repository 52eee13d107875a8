-- The words of marks are ASCII, so bytes that aren't UTF-8 are the word of no mark.
use Rattle.std.proofs.Common.{◌≡◌, ℕ, nat_lt, ◌&&◌, List, [], ◌∷◌, Option, Some, None, Bool, true, false, Decides}
use Rattle.std.proofs.Common.{IsAscii, IsUtf8, bytes_eq, ltb-true, refl, subst, sym}
use Rattle.std.specs.Prelude.{codes}
use Rattle.std.proofs.lemmas.Slice.Eq.{bytes_eq-Decides}
use Rattle.std.proofs.lemmas.Str.{IsUtf8-from_ascii}
use Rattle.std.proofs.lemmas.Str.Ascii.{IsAscii-nil, IsAscii-cons}
use Rattle.sqlite.specs.declared.types.Value.{Value}
use Rattle.cpi_rows.proofs.Truth.{and_first, and_second}
use Rattle.cpi_sql_rows.specs.Lists.{and_then, mark_from, mark_in, number_in_value, text_in}

are_ascii : List ℕ → Bool
are_ascii [] = true
are_ascii (byte ∷ bytes) = nat_lt byte 128 && are_ascii bytes

ascii : (bytes : List ℕ) → are_ascii bytes ≡ true → IsAscii bytes
unfolding are_ascii
ascii [] is = IsAscii-nil
ascii (byte ∷ bytes) is =
    IsAscii-cons byte bytes (ltb-true byte 128 (and_first _ _ is)) (ascii bytes (and_second _ _ is))

apart : (same : Bool) (bytes word : List ℕ) → Decides same (bytes ≡ word) → IsUtf8 word → ¬ (IsUtf8 bytes)
    → same ≡ false
apart true bytes word is good bad = absurd (bad (subst IsUtf8 (sym (is.0 refl)) good))
apart false bytes word is good bad = refl

-- bytes that aren't UTF-8 are no word of ASCII
no_word : (bytes word : List ℕ) → are_ascii word ≡ true → ¬ (IsUtf8 bytes) → bytes_eq bytes word ≡ false
no_word bytes word is = apart (bytes_eq bytes word) bytes word (bytes_eq-Decides bytes word)
    (IsUtf8-from_ascii word (ascii word is))

no_mark_from : (bytes : List ℕ) (price : ℕ) → ¬ (IsUtf8 bytes) → mark_from bytes price ≡ None
unfolding are_ascii
no_mark_from bytes price bad = rw (
  no_word bytes (codes "price") refl bad,
  no_word bytes (codes "comparable") refl bad,
  no_word bytes (codes "other") refl bad,
  no_word bytes (codes "stock") refl bad,
  no_word bytes (codes "closed") refl bad,
  no_word bytes (codes "gone") refl bad,
  no_word bytes (codes "refused") refl bad,
) refl

-- so a row with such bytes in the column of the mark has none
pub no_mark : (mark value : Value) (bytes : List ℕ) → text_in mark ≡ Some bytes → ¬ (IsUtf8 bytes)
    → mark_in mark value ≡ None
no_mark mark value bytes text bad = rw (text) (number (number_in_value value))
  where
    number : (price : Option ℕ) → and_then price (λ v. mark_from bytes v) ≡ None
    number None = refl
    number (Some v) = no_mark_from bytes v bad
