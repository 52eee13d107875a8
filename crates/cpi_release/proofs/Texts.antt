-- A record of texts is a text.
use Rattle.std.proofs.Common.{◌≡◌, ◌∙◌, ℕ, suc, ◌+◌, take, ◌<◌, ◌≤◌, ◌==◌, Bool, true, false, List, [], ◌∷◌, ◌++◌}
use Rattle.std.proofs.Common.{length, get_or, IsUtf8, if◌then◌else◌, inl, inr, refl, sym, ap, subst, arith, append-nil}
use Rattle.std.proofs.lemmas.List.{flat_map_more, take_more}
use Rattle.std.specs.List.{flat_map}
use Rattle.std.proofs.lemmas.Bool.{and_parts, cases_lt, ne_eqb}
use Rattle.std.proofs.lemmas.Str.{IsUtf8-append, IsUtf8-nil, IsUtf8-encode, encode_ascii, inside_one}
use lib.Utf8.{scalar, scalars, encode, encodes}
use Rattle.csv.specs.Writing.{escaped, field_text, fields_text, is_blank, row_body, row_text, needs_quotes}
use Rattle.csv.specs.Writing.{default_writer}
use Rattle.csv.proofs.WriteFacts.{escaped-append}
use Rattle.cpi_release.specs.Texts.{AreTexts}

-- ---- a field between quotation marks

-- bytes without a quotation mark stay as they are
unmarked : (xs : List ℕ) → ((k : ℕ) → k < length xs → 128 ≤ get_or xs k 0) → escaped default_writer xs ≡ xs
unfolding escaped
unmarked [] high = refl
unmarked (x ∷ xs) high =
    let other : (x == 34) ≡ false = let here = high 0 (omega arith) in ne_eqb x 34 (λ e. omega (arith, e, here)) in
    rw other (ap (λ rest. x ∷ rest) (unmarked xs (λ k below. high (suc k) (omega arith))))

one_byte : (x : ℕ) → x < 128 → scalar x ≡ true → IsUtf8 (escaped default_writer (x ∷ []))
unfolding escaped encode
one_byte x small ok =
    let one : IsUtf8 (x ∷ []) = subst IsUtf8 (encode_ascii x small) (IsUtf8-encode x ok) in
    cases (x == 34) one
  where
    cases : (marked : Bool) → IsUtf8 (x ∷ []) → IsUtf8 (if marked then 34 ∷ x ∷ [] else x ∷ [])
    cases true one = IsUtf8-append (34 ∷ []) (x ∷ []) (34 ∷ [], (refl, refl)) one
    cases false one = one

one_char : (c : ℕ) → scalar c ≡ true → IsUtf8 (escaped default_writer (encode c))
one_char c ok = elim (cases_lt c 128) [
  | inl small ↦ rw (encode_ascii c small) (one_byte c small ok)
  | inr big ↦
      let high : (k : ℕ) → k < length (encode c) → 128 ≤ get_or (encode c) k 0 =
      λ k below. elim (cases_lt (get_or (encode c) k 0) 128) [
        | inl low ↦ absurd (omega (arith, inside_one c [] (encode c) k (sym (append-nil _)) below low))
        | inr h ↦ h
      ] in
      subst IsUtf8 (sym (unmarked (encode c) high)) (IsUtf8-encode c ok)
]

all_chars : (cs : List ℕ) → scalars cs ≡ true → IsUtf8 (escaped default_writer (encodes cs))
unfolding escaped
all_chars [] ok = IsUtf8-nil
all_chars (c ∷ cs) ok =
    let parts = and_parts _ _ ok in
    subst IsUtf8 (sym (escaped-append default_writer (encode c) (encodes cs)))
    (IsUtf8-append _ _ (one_char c parts.0) (all_chars cs parts.1))

quoted_field : (field : List ℕ) → IsUtf8 field → IsUtf8 (34 ∷ (escaped default_writer field ++ 34 ∷ []))
unfolding encode
quoted_field field u =
    IsUtf8-append (34 ∷ []) _ (34 ∷ [], (refl, refl))
    (IsUtf8-append _ (34 ∷ []) (subst (λ text. IsUtf8 (escaped default_writer text)) u.1.1 (all_chars u.0 u.1.0))
    (34 ∷ [], (refl, refl)))

one_field : (field : List ℕ) → IsUtf8 field → IsUtf8 (field_text default_writer field)
one_field field u = cases (needs_quotes default_writer field)
  where
    cases : (needs : Bool) → IsUtf8 (if needs then 34 ∷ (escaped default_writer field ++ 34 ∷ []) else field)
    cases true = quoted_field field u
    cases false = u

-- ---- a record

further_fields : (fields : List (List ℕ)) → AreTexts fields → IsUtf8 (fields_text default_writer fields)
unfolding fields_text encode
further_fields [] texts = IsUtf8-nil
further_fields (field ∷ fields) texts =
    IsUtf8-append (44 ∷ []) _ (44 ∷ [], (refl, refl))
    (IsUtf8-append _ _ (one_field field texts.0) (further_fields fields texts.1))

body : (fields : List (List ℕ)) → AreTexts fields → IsUtf8 (row_body default_writer fields)
body [] texts = IsUtf8-nil
body (field ∷ fields) texts = IsUtf8-append _ _ (one_field field texts.0) (further_fields fields texts.1)

pub record_text : (fields : List (List ℕ)) → AreTexts fields → IsUtf8 (row_text default_writer fields)
unfolding encode
record_text fields texts =
    IsUtf8-append _ _ (body fields texts) (IsUtf8-append _ (10 ∷ []) (cases (is_blank default_writer fields))
    (10 ∷ [], (refl, refl)))
  where
    cases : (blank : Bool) → IsUtf8 (if blank then 34 ∷ 34 ∷ [] else [])
    cases true = (34 ∷ 34 ∷ [], (refl, refl))
    cases false = IsUtf8-nil

-- one field more
pub texts_more : (old new : List (List ℕ)) (partial field text : List ℕ) → AreTexts old → partial ≡ []
    → new ≡ old ++ (partial ++ field) ∷ [] → field ≡ text → IsUtf8 text → AreTexts new
texts_more old new partial field text texts none is same u =
    subst AreTexts (sym (is ∙ ap (λ front. old ++ (front ++ field) ∷ []) none)) (cases old texts)
  where
    cases : (fields : List (List ℕ)) → AreTexts fields → AreTexts (fields ++ field ∷ [])
    cases [] none = (subst IsUtf8 (sym same) u, tt)
    cases (first ∷ fields) texts = (texts.0, cases fields texts.1)

-- one record more
abbrev pub rows_of : {X : Type 0} → (X → List (List ℕ)) → List X → List ℕ
rows_of fields_of xs = flat_map (λ x. row_text default_writer (fields_of x)) xs

pub records_more : {X : Type 0} (fields_of : X → List (List ℕ)) (xs : List X) (i : ℕ) (x : X) → i < length xs
    → x ≡ get_or xs i x → AreTexts (fields_of x) → IsUtf8 (rows_of fields_of (take i xs))
    → IsUtf8 (rows_of fields_of (take (i + 1) xs))
records_more {X} fields_of xs i x within is texts u =
    let f : X → List ℕ = λ y. row_text default_writer (fields_of y) in
    let next : take (i + 1) xs ≡ take i xs ++ x ∷ [] = take_more xs i x within
    ∙ ap (λ y. take i xs ++ y ∷ []) (sym is) in
    subst (λ ys. IsUtf8 (flat_map f ys)) (sym next)
    (subst IsUtf8 (flat_map_more f [] (take i xs) x) (IsUtf8-append _ _ u (record_text (fields_of x) texts)))
