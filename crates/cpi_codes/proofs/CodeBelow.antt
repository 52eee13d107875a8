-- What stands at or below what, part by part, and the law of the code above.
use Rattle.std.proofs.Common.{◌≡◌, ℕ, ◌+◌, Bool, true, false, List, [], ◌∷◌, ◌++◌, Option, Some, None, refl, sym, ap}
use Rattle.std.proofs.Common.{◌∙◌, arith, ◌&&◌, ◌||◌, not, ◌==◌}
use Rattle.std.proofs.lemmas.Bool.Decides.{nat_tests}
use Rattle.cpi_codes.proofs.CodeBytes.{absent_below, class_rest, subclass_rest}
use Rattle.cpi_codes.specs.CodeParts.{two_digits, dot_and_digit, dash_and_number}
use Rattle.cpi_codes.specs.CodeText.{code_text, begins_with, are_one_text, all_items, is_code_at_or_below}
use Rattle.cpi_codes.specs.declared.codes.Code.{Code}

-- the part that is asked for is absent, or is the part that is there
abbrev pub fits : Option ℕ → Option ℕ → Bool
fits None x = true
fits (Some d) None = false
fits (Some d) (Some e) = e == d

pub begins_nil : (xs : List ℕ) → begins_with xs [] ≡ true
begins_nil [] = refl
begins_nil (x ∷ xs) = refl

pub begins_two : (m n : ℕ) (r s : List ℕ) → begins_with (two_digits m ++ r) (two_digits n ++ s) ≡
    ((m == n) && begins_with r s)
begins_two m n r s = grind (arith, nat_tests)

begins_dashed : (x y : Option ℕ) → begins_with (dash_and_number x) (dash_and_number y) ≡ fits y x
begins_dashed None None = refl
begins_dashed (Some m) None = refl
begins_dashed None (Some n) = refl
begins_dashed (Some m) (Some n) = begins_two m n [] [] ∙ and_true (m == n) where
  and_true : (b : Bool) → (b && true) ≡ b
  and_true true = refl
  and_true false = refl

same_shift : (d e : ℕ) → ((48 + d) == (48 + e)) ≡ (d == e)
same_shift d e = grind (arith, nat_tests)

begins_dotted : (x y : Option ℕ) (r s : List ℕ) → (x ≡ None → r ≡ []) → (y ≡ None → s ≡ []) →
    begins_with (dot_and_digit x ++ r) (dot_and_digit y ++ s) ≡ (fits y x && begins_with r s)
begins_dotted None None r s p q = refl
begins_dotted (Some m) None r s p q = rw (q refl) (sym (begins_nil r))
begins_dotted None (Some n) r s p q = rw (p refl) refl
begins_dotted (Some m) (Some n) r s p q = ap (λ b. b && begins_with r s) (same_shift m n)

-- a code's text begins with a node's where each part of the node fits
pub begins_parts : (c q : Code) → begins_with (code_text c) (code_text q) ≡
    ((c.division == q.division) && (fits q.group c.group
    && (fits q.class c.class && (fits q.subclass c.subclass && fits q.aggregate c.aggregate))))
begins_parts c q =
    let below_c = absent_below c.division _ _ _ _ c.valid in
    let below_q = absent_below q.division _ _ _ _ q.valid in
    let fourth = begins_dotted c.subclass q.subclass _ _ (λ e. ap dash_and_number (below_c.2 e))
    (λ e. ap dash_and_number (below_q.2 e))
    ∙ ap (λ b. fits q.subclass c.subclass && b) (begins_dashed c.aggregate q.aggregate) in
    let third = begins_dotted c.class q.class _ _ (λ e. subclass_rest _ _ below_c.2 (below_c.1 e))
    (λ e. subclass_rest _ _ below_q.2 (below_q.1 e)) ∙ ap (λ b. fits q.class c.class && b) fourth in
    let second = begins_dotted c.group q.group _ _ (λ e. class_rest _ _ _ below_c.1 below_c.2 (below_c.0 e))
    (λ e. class_rest _ _ _ below_q.1 below_q.2 (below_q.0 e)) ∙ ap (λ b. fits q.group c.group && b) third in
    begins_two c.division q.division (dot_and_digit c.group ++
    (dot_and_digit c.class ++ (dot_and_digit c.subclass ++ dash_and_number c.aggregate)))
    (dot_and_digit q.group ++ (dot_and_digit q.class ++ (dot_and_digit q.subclass ++ dash_and_number q.aggregate)))
    ∙ ap (λ b. (c.division == q.division) && b) second

or_law : (a b z : Bool) → ((a && b) || (not (b && a) && (z || b))) ≡ (z || b)
or_law true true true = refl
or_law true true false = refl
or_law true false true = refl
or_law true false false = refl
or_law false true true = refl
or_law false true false = refl
or_law false false true = refl
or_law false false false = refl

-- a code is at or below a node where the node is `00` or the code's text begins with the node's
pub at_or_below_begins : (q c : Code) → is_code_at_or_below q c ≡
    (are_one_text (code_text q) all_items || begins_with (code_text c) (code_text q))
at_or_below_begins q c = or_law (begins_with (code_text q) (code_text c)) (begins_with (code_text c) (code_text q))
    (are_one_text (code_text q) all_items)

-- the same, read as parts: at the same level both begin with each other
same_when : (x y : Option ℕ) (b : Bool) → (fits y x && (b && fits x y)) ≡ (fits y x && (b && fits x y))
same_when x y b = refl

-- the law of a code with an aggregate, and the subclass above it, over the parts
flip : (d e : ℕ) → (d == e) ≡ (e == d)
flip d e = grind (arith, nat_tests)

fits_flip : (d e : ℕ) → fits (Some d) (Some e) ≡ fits (Some e) (Some d)
fits_flip d e = flip e d

full_flip : (cd qd cg qg cc qc cs qs ca qa : ℕ) →
    ((cd == qd) && (fits (Some qg) (Some cg) && (fits (Some qc) (Some cc)
    && (fits (Some qs) (Some cs) && fits (Some qa) (Some ca))))) ≡
    ((qd == cd) && (fits (Some cg) (Some qg) && (fits (Some cc) (Some qc)
    && (fits (Some cs) (Some qs) && fits (Some ca) (Some qa)))))
full_flip cd qd cg qg c1 qc cs qs ca qa = simp (flip cd qd, flip cg qg, flip c1 qc, flip cs qs, flip ca qa)
