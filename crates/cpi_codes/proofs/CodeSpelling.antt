-- A text is spelled by one division alone, with a group or without.
use Rattle.std.proofs.Common.{◌≡◌, ℕ, ◌+◌, ◌/◌, ◌%◌, IsTrue, List, [], ◌++◌, Option, Some, None, SomeIff, MatchOption}
use Rattle.std.proofs.Common.{is_none, refl, sym, ap, subst, ◌∙◌, arith, ◌&&◌, ◌||◌, nat_le}
use Rattle.std.proofs.lemmas.Bool.Decides.{nat_tests}
use Rattle.cpi_codes.proofs.CodeBytes.{empty_under, class_rest}
use Rattle.cpi_codes.specs.CodeParts.{dot_and_digit, dash_and_number}
use Rattle.cpi_codes.specs.CodeSpelling.{spelling, is_numbered, is_nested, IsSpelled}
use Rattle.cpi_codes.specs.declared.spelling.Parts.{Parts}

pub same_digits : (m n : ℕ) → 48 + m / 10 ≡ 48 + n / 10 → 48 + m % 10 ≡ 48 + n % 10 → m ≡ n
same_digits m n h k = omega arith

-- a text with parts after its division has a group, and one without has none
tail : (g h : Option ℕ) (r s : List ℕ) → (g ≡ None → r ≡ []) → (h ≡ None → s ≡ []) → dot_and_digit g ++ r ≡
    dot_and_digit h ++ s →
    is_none g ≡ is_none h
tail None None r s p q e = refl
tail None (Some y) r s p q e = let f = p refl in cc
tail (Some x) None r s p q e = let f = q refl in cc
tail (Some x) (Some y) r s p q e = refl

no_rest : (p : Parts) → IsTrue (is_nested p) → p.group ≡ None → dot_and_digit p.class
    ++ (dot_and_digit p.subclass ++ dash_and_number p.aggregate) ≡ []
no_rest p h e =
    let class_absent : p.class ≡ None = empty_under p.group p.class (grind (arith, nat_tests)) e in
    class_rest p.class p.subclass p.aggregate (λ n. empty_under p.class p.subclass (grind (arith, nat_tests)) n)
    (λ n. empty_under p.subclass p.aggregate (grind (arith, nat_tests)) n) class_absent

same_numbered : (p q : Parts) → IsTrue (is_nested p) → IsTrue (is_nested q) → spelling p ≡ spelling q →
    is_numbered p ≡ is_numbered q
same_numbered p q np nq e =
    let tens : 48 + p.division / 10 ≡ 48 + q.division / 10 = cc in
    let ones : 48 + p.division % 10 ≡ 48 + q.division % 10 = cc in
    let tails : dot_and_digit p.group ++ (dot_and_digit p.class ++
    (dot_and_digit p.subclass ++ dash_and_number p.aggregate)) ≡ dot_and_digit q.group
    ++ (dot_and_digit q.class ++ (dot_and_digit q.subclass ++ dash_and_number q.aggregate)) = cc in
    let division : p.division ≡ q.division = same_digits p.division q.division tens ones in
    let group : is_none p.group ≡ is_none q.group = tail p.group q.group _ _ (no_rest p np) (no_rest q nq) tails in
    ap (λ d. nat_le d 15 && (nat_le 1 d || is_none p.group)) division
    ∙ ap (λ g. nat_le q.division 15 && (nat_le 1 q.division || g)) group

pub arm : (q : Parts) (text : List ℕ) (r : Option Parts) → SomeIff r (IsTrue (is_numbered q)) q →
    IsTrue (is_nested q) → spelling q ≡ text → MatchOption r ((p : Parts) → IsSpelled p text → ⊥)
    (λ p. IsSpelled p text)
arm q text None refused nested e = λ p s. refused (subst IsTrue (same_numbered p q s.1 nested (s.2 ∙ sym e)) s.0)
arm q text (Some p) fits nested e = subst (λ p. IsSpelled p text) (sym fits.1) (fits.0, nested, e)
