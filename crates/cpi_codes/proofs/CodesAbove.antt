-- What a code is at or below is among the codes at and above it.
use Rattle.std.proofs.Common.{◌≡◌, ℕ, Bool, true, false, List, [], ◌∷◌, ◌++◌, Option, Some, None, refl, sym, ap, ◌∙◌}
use Rattle.std.proofs.Common.{subst, arith, ◌&&◌, ◌||◌, ◌==◌}
use Rattle.std.specs.Ordering.{is_eq}
use Rattle.std.specs.List.{list_any}
use Rattle.std.proofs.lemmas.List.Folds.{list_any-append}
use Rattle.std.proofs.lemmas.Bool.Decides.{nat_tests}
use Rattle.std.proofs.lemmas.Cmp.{tied_itself}
use Rattle.cpi_rows.proofs.Truth.{or_of_first, or_of_second, and_first, and_second}
use Rattle.cpi_codes.specs.CodeParts.{are_parts}
use Rattle.cpi_codes.specs.CodePath.{code_if, code_with, path}
use Rattle.cpi_codes.specs.CodeOrder.{is_same_code}
use Rattle.cpi_codes.specs.CodeText.{is_code_at_or_below}
use Rattle.cpi_codes.specs.declared.codes.Code.{Code}
use Rattle.cpi_codes.specs.contracts.codes.CodeOrd.TheImpl.Laws.{total-law}
use Rattle.cpi_codes.proofs.CodeBytes.{absent_below}
use Rattle.cpi_codes.proofs.CodeBelow.{fits}
use Rattle.cpi_codes.proofs.CodePath.{at_or_below_parts, no_group}
use Rattle.cpi_codes.proofs.CodeIs.{same_code_is}

pub same_code_itself : (k : Code) → is_same_code k k ≡ true
same_code_itself k = ap is_eq (tied_itself total-law k)

made_if : (k : Code) (b : Bool) (e : are_parts k.division k.group k.class k.subclass k.aggregate ≡ b) →
    list_any (is_same_code k) (code_if k.division k.group k.class k.subclass k.aggregate b e) ≡ true
made_if k true e = or_of_first _ false (same_code_itself k)
made_if k false e = absurd (clash (sym k.valid ∙ e)) where
  clash : true ≡ false → ⊥
  clash e = cc

-- a code is made of its parts
made : (k : Code) (d : ℕ) (g c s a : Option ℕ) → k.division ≡ d → k.group ≡ g → k.class ≡ c → k.subclass ≡ s →
    k.aggregate ≡ a → list_any (is_same_code k) (code_with d g c s a) ≡ true
made k d g c s a p q r x y =
    subst (λ z. list_any (is_same_code k) (code_with d g c s z) ≡ true) y
    (subst (λ z. list_any (is_same_code k) (code_with d g c z k.aggregate) ≡ true) x
    (subst (λ z. list_any (is_same_code k) (code_with d g z k.subclass k.aggregate) ≡ true) r
    (subst (λ z. list_any (is_same_code k) (code_with d z k.class k.subclass k.aggregate) ≡ true) q
    (subst (λ z. list_any (is_same_code k) (code_with z k.group k.class k.subclass k.aggregate) ≡ true) p
    (made_if k (are_parts k.division k.group k.class k.subclass k.aggregate) refl)))))

in_first : (k : Code) (xs ys : List Code) → list_any (is_same_code k) xs ≡ true → list_any (is_same_code k)
    (xs ++ ys) ≡ true
in_first k xs ys h = list_any-append (is_same_code k) xs ys ∙ or_of_first _ _ h

in_rest : (k : Code) (xs ys : List Code) → list_any (is_same_code k) ys ≡ true → list_any (is_same_code k)
    (xs ++ ys) ≡ true
in_rest k xs ys h = list_any-append (is_same_code k) xs ys ∙ or_of_second _ _ h

fits_is : (x : ℕ) (y : Option ℕ) → fits (Some x) y ≡ true → Some x ≡ y
fits_is x None h = cc
fits_is x (Some y) h = let same : x ≡ y = grind (arith, nat_tests) in ap (λ n. Some n) same

number : (m n : ℕ) → (m == n) ≡ true → n ≡ m
number m n h = grind (arith, nat_tests)

abbrev from_subclass : Code → List Code
from_subclass c = code_with c.division c.group c.class c.subclass None ++ c ∷ []

abbrev from_class : Code → List Code
from_class c = code_with c.division c.group c.class None None ++ from_subclass c

abbrev from_group : Code → List Code
from_group c = code_with c.division c.group None None None ++ from_class c

abbrev from_division : Code → List Code
from_division c = code_with c.division None None None None ++ from_group c

module _ (k c : Code) (d : k.division ≡ c.division) where
  below : (k.group ≡ None → k.class ≡ None) × (k.class ≡ None → k.subclass ≡ None)
      × (k.subclass ≡ None → k.aggregate ≡ None)
  below = absent_below k.division k.group k.class k.subclass k.aggregate k.valid

  by_aggregate : (a : Option ℕ) → k.group ≡ c.group → k.class ≡ c.class → k.subclass ≡ c.subclass → k.aggregate ≡ a →
      fits a c.aggregate ≡ true → list_any (is_same_code k) (from_subclass c) ≡ true
  by_aggregate None g h s e f = in_first k (code_with c.division c.group c.class c.subclass None) (c ∷ [])
      (made k c.division c.group c.class c.subclass None d g h s e)
  by_aggregate (Some x) g h s e f =
      let same : k ≡ c = same_code_is k c d g h s (e ∙ fits_is x c.aggregate f) in
      in_rest k (code_with c.division c.group c.class c.subclass None) (c ∷ [])
      (or_of_first (is_same_code k c) false (subst (λ z. is_same_code k z ≡ true) same (same_code_itself k)))

  by_subclass : (s : Option ℕ) → k.group ≡ c.group → k.class ≡ c.class → k.subclass ≡ s →
      (fits s c.subclass && fits k.aggregate c.aggregate) ≡ true → list_any (is_same_code k) (from_class c) ≡ true
  by_subclass None g h e f = in_first k (code_with c.division c.group c.class None None) (from_subclass c)
      (made k c.division c.group c.class None None d g h e (below.2 e))
  by_subclass (Some x) g h e f = in_rest k (code_with c.division c.group c.class None None) (from_subclass c)
      (by_aggregate k.aggregate g h (e ∙ fits_is x c.subclass (and_first _ _ f)) refl
      (and_second (fits (Some x) c.subclass) _ f))

  by_class : (h : Option ℕ) → k.group ≡ c.group → k.class ≡ h →
      (fits h c.class && (fits k.subclass c.subclass && fits k.aggregate c.aggregate)) ≡ true →
      list_any (is_same_code k) (from_group c) ≡ true
  by_class None g e f = in_first k (code_with c.division c.group None None None) (from_class c)
      (made k c.division c.group None None None d g e (below.1 e) (below.2 (below.1 e)))
  by_class (Some x) g e f = in_rest k (code_with c.division c.group None None None) (from_class c)
      (by_subclass k.subclass g (e ∙ fits_is x c.class (and_first _ _ f)) refl (and_second (fits (Some x) c.class) _ f))

  by_group : (g : Option ℕ) → k.group ≡ g → (fits g c.group
      && (fits k.class c.class && (fits k.subclass c.subclass && fits k.aggregate c.aggregate))) ≡ true →
      list_any (is_same_code k) (from_division c) ≡ true
  by_group None e f = in_first k (code_with c.division None None None None) (from_group c)
      (made k c.division None None None None d e (below.0 e) (below.1 (below.0 e)) (below.2 (below.1 (below.0 e))))
  by_group (Some x) e f = in_rest k (code_with c.division None None None None) (from_group c)
      (by_class k.class (e ∙ fits_is x c.group (and_first _ _ f)) refl (and_second (fits (Some x) c.group) _ f))

is_zero : (n : ℕ) → (n == 0) ≡ true → n ≡ 0
is_zero n h = grind (arith, nat_tests)

pub in_path : (k c : Code) → is_code_at_or_below k c ≡ true → list_any (is_same_code k) (path c) ≡ true
in_path k c h = cases (k.division == 0) refl (sym (at_or_below_parts k c) ∙ h)
  where
    cases : (z : Bool) → (k.division == 0) ≡ z → (z ||
        ((c.division == k.division) && (fits k.group c.group
        && (fits k.class c.class && (fits k.subclass c.subclass && fits k.aggregate c.aggregate))))) ≡ true →
        list_any (is_same_code k) (path c) ≡ true
    cases true e f =
        let none = is_zero k.division e in
        let g = no_group k none in
        let under = absent_below k.division k.group k.class k.subclass k.aggregate k.valid in
        in_first k (code_with 0 None None None None) (from_division c)
        (made k 0 None None None None none g (under.0 g) (under.1 (under.0 g)) (under.2 (under.1 (under.0 g))))
    cases false e f = in_rest k (code_with 0 None None None None) (from_division c)
        (by_group k c (number c.division k.division (and_first _ _ f)) k.group refl
        (and_second (c.division == k.division) _ f))
