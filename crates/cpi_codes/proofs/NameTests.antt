-- When bytes are text, and when a text is no name.
use Rattle.std.proofs.Common.{◌≡◌, sym, refl, List, ℕ, Bool, true, false, ◌&&◌, Result, Ok, Err, MatchResult, is_ok}
use Rattle.std.proofs.Common.{IsUtf8}
use Rattle.std.specs.Str.{is_utf8}
use Rattle.std.proofs.lemmas.Str.{is_utf8-from_IsUtf8, IsUtf8-from_is_utf8}
use Rattle.cpi_rows.proofs.Truth.{and_false_second}
use Rattle.cpi_codes.specs.Name.{is_text_of_name}

not_utf8 : (b : Bool) (text : List ℕ) → is_utf8 text ≡ b → ¬ (IsUtf8 text) → b ≡ false
not_utf8 true text e h = absurd (h (IsUtf8-from_is_utf8 text e))
not_utf8 false text e h = refl

pub not_name : (text : List ℕ) → ¬ (IsUtf8 text) → is_text_of_name text ≡ false
unfolding is_text_of_name
not_name text h = and_false_second _ (is_utf8 text) (not_utf8 (is_utf8 text) text refl h)

-- a conversion that succeeds just where the bytes are UTF-8 tells whether they are
pub ok_is_utf8 : {T E : Type 0} (r : Result T E) (text : List ℕ) (P : T → Type 0) (Q : E → Type 0) →
    MatchResult r (λ s. P s × IsUtf8 text) (λ e. ¬ (IsUtf8 text) × Q e) → is_ok r ≡ is_utf8 text
ok_is_utf8 (Ok s) text P Q h = sym (is_utf8-from_IsUtf8 text h.1)
ok_is_utf8 (Err e) text P Q h = sym (not_utf8 (is_utf8 text) text refl h.0)
