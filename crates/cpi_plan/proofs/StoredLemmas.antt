-- A plan is made of its nodes, its places and its reference month.
use Rattle.std.proofs.Common.{◌≡◌, ℕ, Bool, true, false, List, [], ◌∷◌, ◌++◌, Some, None, Option, refl, sym, ◌∙◌}
use Rattle.std.proofs.Common.{arith, ◌&&◌, ◌||◌, ◌==◌}
use Rattle.std.proofs.lemmas.Bool.Decides.{nat_tests}
use Rattle.std.specs.List.{list_any, list_all}
use Rattle.std.proofs.lemmas.List.Folds.{list_all-append}
use Rattle.cpi_codes.specs.CodeOrder.{is_same_code}
use Rattle.cpi_codes.specs.CodeText.{is_code_at_or_below}
use Rattle.cpi_codes.specs.CodePath.{path, code_with, code_if}
use Rattle.cpi_codes.specs.CodeParts.{are_parts}
use Rattle.cpi_codes.specs.declared.codes.Code.{Code}
use Rattle.cpi_codes.proofs.CodePath.{at_or_below_parts}
use Rattle.cpi_codes.proofs.CodeBelow.{fits}
use Rattle.cpi_codes.proofs.CodeIs.{code}
use Rattle.cpi_rows.proofs.Truth.{and_first, and_second, and_true, or_of_first, or_of_second, equal_itself}
use Rattle.cpi_codes.proofs.CodesAbove.{same_code_itself}
use Rattle.cpi_plan.specs.declared.limits.TheConstants.{ALL_PARTS}
use Rattle.cpi_plan.specs.Sums.{weight_under, is_node}
use Rattle.cpi_plan.specs.Plan.{Plan, IsPlan, total_weight}
use Rattle.cpi_plan.specs.Stored.{is_weighed, is_complete, is_whole}
use Rattle.cpi_plan.specs.declared.plan_rows.Weight.{Weight}

fits_itself : (x : Option ℕ) → fits x x ≡ true
fits_itself None = refl
fits_itself (Some n) = grind (arith, nat_tests)

fitting : (z e a b d f : Bool) → e ≡ true → a ≡ true → b ≡ true → d ≡ true → f ≡ true →
    (z || (e && (a && (b && (d && f))))) ≡ true
fitting true e a b d f p q r s t = refl
fitting false e a b d f p q r s t = rw (p, q, r, s, t) refl

-- a code is at or below itself
pub below_itself : (c : Code) → is_code_at_or_below c c ≡ true
below_itself c = at_or_below_parts c c ∙ fitting (c.division == 0) _ _ _ _ _ (equal_itself c.division)
    (fits_itself c.group) (fits_itself c.class) (fits_itself c.subclass) (fits_itself c.aggregate)

-- ---- completeness
module _ (p : Code → Bool) where
  if_all : (d : ℕ) (g c s a : Option ℕ) (b : Bool) (e : are_parts d g c s a ≡ b) →
      ((v : are_parts d g c s a ≡ true) → p (record {
        division = d;
        group = g;
        class = c;
        subclass = s;
        aggregate =
            a;
        valid = v;
      }) ≡ true) → list_all p (code_if d g c s a b e) ≡ true
  if_all d g c s a true e h = rw (h e) refl
  if_all d g c s a false e h = refl

  with_all : (d : ℕ) (g c s a : Option ℕ) → ((v : are_parts d g c s a ≡ true) →
      p (record { division = d; group = g; class = c; subclass = s; aggregate = a; valid = v }) ≡ true) →
      list_all p (code_with d g c s a) ≡ true
  with_all d g c s a h = if_all d g c s a (are_parts d g c s a) refl h

  both_all : (xs ys : List Code) → list_all p xs ≡ true → list_all p ys ≡ true → list_all p (xs ++ ys) ≡ true
  both_all xs ys h k = list_all-append p xs ys ∙ and_true (list_all p xs) (list_all p ys) h k

below_parts : (n c : Code) → (n.division == 0) ≡ true → is_code_at_or_below n c ≡ true
below_parts n c e = at_or_below_parts n c ∙ (rw e refl)

-- what holds of each code that a code is at or below, holds on its path
path_all : (p : Code → Bool) (c : Code) → ((n : Code) → is_code_at_or_below n c ≡ true → p n ≡ true) →
    list_all p (path c) ≡ true
path_all p c h =
    both_all p (code_with 0 None None None None) _
    (with_all p 0 None None None None (λ v. h (code 0 None None None None v)
    (below_parts (code 0 None None None None v) c refl)))
    (both_all p (code_with c.division None None None None) _
    (with_all p c.division None None None None (λ v. h (code c.division None None None None v)
    (at_or_below_parts (code c.division None None None None v) c
    ∙ fitting (c.division == 0) _ _ _ _ _ (equal_itself c.division) refl refl refl refl)))
    (both_all p (code_with c.division c.group None None None) _
    (with_all p c.division c.group None None None
    (λ v. h (code c.division c.group None None None v)
    (at_or_below_parts (code c.division c.group None None None v) c
    ∙ fitting (c.division == 0) _ _ _ _ _ (equal_itself c.division) (fits_itself c.group) refl refl refl)))
    (both_all p (code_with c.division c.group c.class None None) _
    (with_all p c.division c.group c.class None None
    (λ v. h (code c.division c.group c.class None None v)
    (at_or_below_parts (code c.division c.group c.class None None v) c
    ∙ fitting (c.division == 0) _ _ _ _ _ (equal_itself c.division) (fits_itself c.group)
    (fits_itself c.class) refl refl)))
    (both_all p (code_with c.division c.group c.class c.subclass None) (c ∷ [])
    (with_all p c.division c.group c.class c.subclass None
    (λ v. h (code c.division c.group c.class c.subclass None v)
    (at_or_below_parts (code c.division c.group c.class c.subclass None v) c
    ∙ fitting (c.division == 0) _ _ _ _ _ (equal_itself c.division) (fits_itself c.group) (fits_itself c.class)
    (fits_itself c.subclass) refl)))
    (rw (h c (below_itself c)) refl)))))

-- ---- a plan passes the tests
-- each row of a list is among the list's rows
all_among : {X : Type 0} (E : X → X → Bool) → ((x : X) → E x x ≡ true) → (q : X → Bool) (xs : List X) →
    ((x : X) → list_any (λ y. E y x) xs ≡ true → q x ≡ true) → list_all q xs ≡ true
all_among E same q [] h = refl
all_among E same q (x ∷ xs) h =
    rw (h x (or_of_first (E x x) (list_any (λ y. E y x) xs) (same x)))
    (all_among E same q xs (λ y k. h y (or_of_second (E x y) (list_any (λ z. E z y) xs) k)))

all_both : {X : Type 0} (p q : X → Bool) (xs : List X) → list_all p xs ≡ true → list_all q xs ≡ true →
    list_all (λ x. p x && q x) xs ≡ true
all_both p q [] h k = refl
all_both p q (x ∷ xs) h k =
    and_true (p x && q x) (list_all (λ y. p y && q y) xs)
    (and_true (p x) (q x) (and_first (p x) (list_all p xs) h) (and_first (q x) (list_all q xs) k))
    (all_both p q xs (and_second (p x) (list_all p xs) h) (and_second (q x) (list_all q xs) k))

all_paths : (q : Code → Bool) (xs : List Weight) →
    ((n : Code) → list_any (λ w. is_code_at_or_below n w.code) xs ≡ true → q n ≡ true) →
    list_all (λ w. list_all q (path w.code)) xs ≡ true
all_paths q [] h = refl
all_paths q (w ∷ xs) h =
    rw (path_all q w.code (λ n below. h n (or_of_first (is_code_at_or_below n w.code)
    (list_any (λ v. is_code_at_or_below n v.code) xs) below)))
    (all_paths q xs (λ n k. h n (or_of_second (is_code_at_or_below n w.code)
    (list_any (λ v. is_code_at_or_below n v.code) xs) k)))

module _ (p : Plan) (v : IsPlan p) where
  weighed : list_all (is_weighed p.weights) p.nodes ≡ true
  weighed =
      all_both (λ n. is_node p.weights n.code) (λ n. n.weight == weight_under n.code p.weights) p.nodes
      (all_among (λ m n. is_same_code m.code n.code) (λ n. same_code_itself n.code) (λ n. is_node p.weights n.code)
      p.nodes
      (λ n h. v.complete n.code ∙ h))
      v.weighed

  complete : is_complete p ≡ true
  complete = all_paths (λ c. list_any (λ n. is_same_code n.code c) p.nodes) p.weights (λ n h. sym (v.complete n) ∙ h)

  -- a plan passes the tests
  pub plan_whole : is_whole p ≡ true
  plan_whole =
      let whole : (total_weight p.weights == ALL_PARTS) ≡ true = rw v.whole refl in
      rw (whole, v.positive, weighed, complete, v.placed, v.referred) refl
