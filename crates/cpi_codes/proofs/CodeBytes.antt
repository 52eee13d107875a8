-- The order of the parts of two codes is the byte order of their texts.
use Rattle.std.proofs.Common.{◌≡◌, ℕ, ◌+◌, ◌/◌, ◌%◌, true, IsTrue, List, [], ◌++◌, Option, Some, None, refl, ap, ◌∙◌}
use Rattle.std.proofs.Common.{arith}
use Rattle.std.specs.declared.cmp.Ordering.{Ordering}
use Rattle.std.specs.declared.cmp.Ordering.TheVariants.{Less, Equal, Greater}
use Rattle.std.specs.Ordering.{nat_cmp, ordering_then}
use Rattle.std.specs.Option.{option_cmp}
use Rattle.std.specs.Cmp.Lexicographic.{slice_cmp}
use Rattle.std.proofs.lemmas.Bool.Decides.{nat_tests}
use Rattle.cpi_codes.specs.CodeParts.{two_digits, dot_and_digit, dash_and_number, is_under, are_parts}
use Rattle.cpi_codes.specs.CodeText.{code_text}
use Rattle.cpi_codes.specs.declared.codes.Code.{Code}

pub nat_cmp_shift : (a m n : ℕ) → nat_cmp (a + m) (a + n) ≡ nat_cmp m n
nat_cmp_shift a m n = grind (arith, nat_tests)

-- two digits compare as the number does
pub two_digits_cmp : (m n : ℕ) (rest : Ordering) → ordering_then (nat_cmp (48 + m / 10) (48 + n / 10))
    (ordering_then (nat_cmp (48 + m % 10) (48 + n % 10)) rest) ≡ ordering_then (nat_cmp m n) rest
two_digits_cmp m n rest = grind (arith, nat_tests)

pub dashed_cmp : (a b : Option ℕ) → slice_cmp nat_cmp (dash_and_number a) (dash_and_number b) ≡ option_cmp nat_cmp a b
dashed_cmp None None = refl
dashed_cmp None (Some n) = refl
dashed_cmp (Some m) None = refl
dashed_cmp (Some m) (Some n) = two_digits_cmp m n Equal ∙ then_equal (nat_cmp m n) where
  then_equal : (o : Ordering) → ordering_then o Equal ≡ o
  then_equal Less = refl
  then_equal Equal = refl
  then_equal Greater = refl

-- a dotted part, and what follows it, which is empty where the part is absent
pub dotted_cmp : (x y : Option ℕ) (r s : List ℕ) → (x ≡ None → r ≡ []) → (y ≡ None → s ≡ []) →
    slice_cmp nat_cmp (dot_and_digit x ++ r) (dot_and_digit y ++ s) ≡ ordering_then (option_cmp nat_cmp x y)
    (slice_cmp nat_cmp r s)
dotted_cmp None None r s p q = refl
dotted_cmp None (Some n) r s p q = rw (p refl) refl
dotted_cmp (Some m) None r s p q = rw (q refl) refl
dotted_cmp (Some m) (Some n) r s p q = ap (λ o. ordering_then o (slice_cmp nat_cmp r s)) (nat_cmp_shift 48 m n)

pub empty_under : (part below : Option ℕ) → is_under part below ≡ true → part ≡ None → below ≡ None
empty_under None None h e = refl
empty_under None (Some n) h e = cc
empty_under (Some m) below h e = cc

-- what stands below an absent part is absent
pub absent_below : (division : ℕ) (group class subclass aggregate : Option ℕ) →
    IsTrue (are_parts division group class subclass aggregate) → (group ≡ None → class ≡ None)
    × (class ≡ None → subclass ≡ None) × (subclass ≡ None → aggregate ≡ None)
absent_below division group class subclass aggregate h = (
  λ e. empty_under group class (grind (arith, nat_tests)) e,
  λ e. empty_under class subclass (grind (arith, nat_tests)) e,
  λ e. empty_under subclass aggregate (grind (arith, nat_tests)) e,
)

pub subclass_rest : (x y : Option ℕ) → (x ≡ None → y ≡ None) → x ≡ None → dot_and_digit x ++ dash_and_number y ≡ []
subclass_rest x y h e = rw (e, h e) refl

pub class_rest : (x y z : Option ℕ) → (x ≡ None → y ≡ None) → (y ≡ None → z ≡ None) → x ≡ None → dot_and_digit x
    ++ (dot_and_digit y ++ dash_and_number z) ≡ []
class_rest x y z h k e = rw (e, h e, k (h e)) refl

-- texts of parts compare part by part as they compare byte by byte, where nothing stands below an absent part
pub parts_cmp : (d : ℕ) (g c s a : Option ℕ) (e : ℕ) (h k t b : Option ℕ) → (g ≡ None → c ≡ None)
    × (c ≡ None → s ≡ None) × (s ≡ None → a ≡ None) → (h ≡ None → k ≡ None) × (k ≡ None → t ≡ None)
    × (t ≡ None → b ≡ None)
    → slice_cmp nat_cmp (two_digits d ++ (dot_and_digit g ++
    (dot_and_digit c ++ (dot_and_digit s ++ dash_and_number a))))
    (two_digits e ++ (dot_and_digit h ++ (dot_and_digit k ++ (dot_and_digit t ++ dash_and_number b)))) ≡ ordering_then
    (nat_cmp d e)
    (ordering_then (option_cmp nat_cmp g h) (ordering_then (option_cmp nat_cmp c k)
    (ordering_then (option_cmp nat_cmp s t) (option_cmp nat_cmp a b))))
parts_cmp d g c s a e h k t b below_c below_d =
    let dashed_c : s ≡ None → dash_and_number a ≡ [] = λ e. ap dash_and_number (below_c.2 e) in
    let dashed_d : t ≡ None → dash_and_number b ≡ [] = λ e. ap dash_and_number (below_d.2 e) in
    let fourth = dotted_cmp s t _ _ dashed_c dashed_d ∙ ap (ordering_then (option_cmp nat_cmp s t)) (dashed_cmp a b) in
    let third = dotted_cmp c k _ _ (λ e. subclass_rest _ _ below_c.2 (below_c.1 e))
    (λ e. subclass_rest _ _ below_d.2 (below_d.1 e)) ∙ ap (ordering_then (option_cmp nat_cmp c k)) fourth in
    let second = dotted_cmp g h _ _ (λ e. class_rest _ _ _ below_c.1 below_c.2 (below_c.0 e))
    (λ e. class_rest _ _ _ below_d.1 below_d.2 (below_d.0 e)) ∙ ap (ordering_then (option_cmp nat_cmp g h)) third in
    two_digits_cmp d e _ ∙ ap (ordering_then (nat_cmp d e)) second

-- codes compare part by part as their texts compare byte by byte
pub text_cmp : (c d : Code) → slice_cmp nat_cmp (code_text c) (code_text d) ≡ ordering_then
    (nat_cmp c.division d.division)
    (ordering_then (option_cmp nat_cmp c.group d.group)
    (ordering_then (option_cmp nat_cmp c.class d.class)
    (ordering_then (option_cmp nat_cmp c.subclass d.subclass) (option_cmp nat_cmp c.aggregate d.aggregate))))
text_cmp c d = parts_cmp c.division c.group c.class c.subclass c.aggregate d.division d.group d.class d.subclass
    d.aggregate (absent_below c.division _ _ _ _ c.valid) (absent_below d.division _ _ _ _ d.valid)
