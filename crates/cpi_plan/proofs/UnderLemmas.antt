-- Sums of weights under a code.
use Rattle.std.proofs.Common.{◌≡◌, ℕ, ◌+◌, ◌<◌, ◌≤◌, Bool, true, false, cond, List, [], ◌∷◌, ◌++◌, length, take, get_or}
use Rattle.std.proofs.Common.{filter, sum_by, Option, Some, None, refl, sym, ap, ◌∙◌, arith, ◌&&◌, ◌||◌, ◌==◌}
use Rattle.std.proofs.lemmas.Bool.Decides.{nat_tests}
use Rattle.std.proofs.lemmas.List.Elements.{filter_more}
use Rattle.std.proofs.lemmas.List.Sums.{sum_by-append}
use Rattle.std.specs.List.{list_any}
use Rattle.cpi_codes.specs.CodeText.{is_code_at_or_below}
use Rattle.cpi_codes.specs.CodeOrder.{is_same_code}
use Rattle.cpi_codes.specs.declared.codes.Code.{Code}
use Rattle.cpi_codes.proofs.CodePath.{same_part, is_eq_parts, at_or_below_parts}
use Rattle.cpi_codes.proofs.CodeBelow.{fits}
use Rattle.cpi_rows.proofs.Truth.{or_false_first, or_false_second, same_of_equal}
pub use Rattle.cpi_rows.proofs.Truth.{and_first, and_second, same_of_equal as number_is}
use Rattle.cpi_plan.specs.declared.plan_rows.Weight.{Weight}
use Rattle.cpi_plan.specs.Sums.{weight_under, is_node}
use Rattle.cpi_plan.specs.Plan.{has_zero_weight, total_weight}

one : (b : Bool) (x : Weight) → sum_by (λ w. w.parts) (cond b (x ∷ []) []) ≡ cond b x.parts 0
one true x = omega arith
one false x = refl

pub weight_more : (q : Code) (xs : List Weight) (i : ℕ) (x : Weight) → i < length xs → x ≡ get_or xs i x →
    weight_under q (take (i + 1) xs) ≡ weight_under q (take i xs) + cond (is_code_at_or_below q x.code) x.parts 0
weight_more q xs i x h is =
    let f : Weight → ℕ = λ w. w.parts in
    let p : Weight → Bool = λ w. is_code_at_or_below q w.code in
    ap (sum_by f) (filter_more p xs i x h)
    ∙ ap (λ y. sum_by f (filter p (take i xs) ++ cond (p y) (y ∷ []) [])) (sym is)
    ∙ sum_by-append f (filter p (take i xs)) (cond (p x) (x ∷ []) [])
    ∙ ap (λ n. sum_by f (filter p (take i xs)) + n) (one (p x) x)

pub amount_fits : (b : Bool) (n m : ℕ) → n ≤ m → cond b n 0 ≤ m
amount_fits true n m h = h
amount_fits false n m h = omega arith

-- ---- codes with the same parts
pub part_is : (x y : Option ℕ) → same_part x y ≡ true → x ≡ y
part_is None None h = refl
part_is None (Some e) h = cc
part_is (Some d) None h = cc
part_is (Some d) (Some e) h = ap (λ n. Some n) (same_of_equal d e h)

abbrev below_parts : Code → ℕ → Option ℕ → Option ℕ → Option ℕ → Option ℕ → Bool
below_parts c d g k s a = (d == 0) || ((c.division == d)
    && (fits g c.group && (fits k c.class && (fits s c.subclass && fits a c.aggregate))))

below_parts_agree : (c : Code) (d e : ℕ) (g h k l s t a b : Option ℕ) → e ≡ d → h ≡ g → l ≡ k → t ≡ s → b ≡ a →
    below_parts c e h l t b ≡ below_parts c d g k s a
below_parts_agree c d e g h k l s t a b p1 p2 p3 p4 p5 = rw (p1, p2, p3, p4, p5) refl

-- a code at or below another is at or below each that compares equal to it
pub same_below : (n q : Code) → is_same_code n q ≡ true → (c : Code) → is_code_at_or_below n c ≡ is_code_at_or_below q c
same_below n q h c =
    let parts = sym (is_eq_parts n q) ∙ h in
    let rest = and_second (q.division == n.division) _ parts in
    let third = and_second (same_part q.group n.group) _ rest in
    let fourth = and_second (same_part q.class n.class) _ third in
    at_or_below_parts n c ∙ sym (below_parts_agree c n.division q.division n.group q.group n.class q.class n.subclass
    q.subclass n.aggregate q.aggregate
    (same_of_equal q.division n.division (and_first (q.division == n.division) _ parts))
    (part_is q.group n.group (and_first (same_part q.group n.group) _ rest))
    (part_is q.class n.class (and_first (same_part q.class n.class) _ third))
    (part_is q.subclass n.subclass (and_first (same_part q.subclass n.subclass) _ fourth))
    (part_is q.aggregate n.aggregate (and_second (same_part q.subclass n.subclass) _ fourth)))
    ∙ sym (at_or_below_parts q c)

filter_agree : {X : Type 0} (p q : X → Bool) → ((x : X) → p x ≡ q x) → (xs : List X) → filter p xs ≡ filter q xs
filter_agree p q h [] = refl
filter_agree p q h (x ∷ xs) = rw (h x, filter_agree p q h xs) refl

pub any_agree : {X : Type 0} (p q : X → Bool) → ((x : X) → p x ≡ q x) → (xs : List X) → list_any p xs ≡ list_any q xs
any_agree p q h [] = refl
any_agree p q h (x ∷ xs) = rw (h x, any_agree p q h xs) refl

pub same_weight : (n q : Code) → is_same_code n q ≡ true → (ws : List Weight) → weight_under n ws ≡ weight_under q ws
same_weight n q h ws = ap (sum_by (λ w. w.parts))
    (filter_agree (λ w. is_code_at_or_below n w.code) (λ w. is_code_at_or_below q w.code)
    (λ w. same_below n q h w.code) ws)

pub same_node : (n q : Code) → is_same_code n q ≡ true → (ws : List Weight) → is_node ws n ≡ is_node ws q
same_node n q h ws = any_agree (λ w. is_code_at_or_below n w.code) (λ w. is_code_at_or_below q w.code)
    (λ w. same_below n q h w.code) ws

-- ---- if no weight is 0, a code has a weight if and only if it is a node
has_more : (b : Bool) (n s : ℕ) (any : Bool) → (n == 0) ≡ false → (0 < s → any ≡ true) → (any ≡ true → 0 < s) →
    (0 < cond b n 0 + s → (b || any) ≡ true) × ((b || any) ≡ true → 0 < cond b n 0 + s)
has_more true n s any p f g = (λ h. refl, λ h. grind (arith, nat_tests))
has_more false n s any p f g = (λ h. f (omega arith), λ h. omega (arith, g h))

pub under_cons : (q : Code) (x : Weight) (xs : List Weight) (b : Bool) → is_code_at_or_below q x.code ≡ b →
    weight_under q (x ∷ xs) ≡ cond b x.parts 0 + weight_under q xs
under_cons q x xs true e = rw e (sum_by-append (λ w. w.parts) (x ∷ []) (filter (λ w. is_code_at_or_below q w.code) xs)
    ∙ omega arith)
under_cons q x xs false e = rw e (omega arith)

pub weighs : (q : Code) (ws : List Weight) → has_zero_weight ws ≡ false → (0 < weight_under q ws → is_node ws q ≡ true)
    × (is_node ws q ≡ true → 0 < weight_under q ws)
weighs q [] z = (λ h. absurd (omega arith), λ h. cc)
weighs q (x ∷ xs) z =
    let rest = weighs q xs (or_false_second (x.parts == 0) (has_zero_weight xs) z) in
    let here = has_more (is_code_at_or_below q x.code) x.parts (weight_under q xs) (is_node xs q)
    (or_false_first (x.parts == 0) (has_zero_weight xs) z) rest.0 rest.1 in
    let sum = under_cons q x xs (is_code_at_or_below q x.code) refl in
    (λ h. here.0 (omega (arith, sum, h)), λ h. omega (arith, sum, here.1 h))

-- no code has more than all
pub under_total : (q : Code) (ws : List Weight) → weight_under q ws ≤ total_weight ws
under_total q [] = omega arith
under_total q (x ∷ xs) = omega (
  arith,
  sum_by-append (λ w. w.parts) (x ∷ []) xs,
  one true x,
  under_cons q x xs (is_code_at_or_below q x.code) refl,
  amount_fits (is_code_at_or_below q x.code) x.parts x.parts
      (omega arith),
  under_total q xs,
)
