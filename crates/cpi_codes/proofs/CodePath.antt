-- An amount added to each of the six nodes at or above an elementary aggregate is added to a node
-- exactly where the aggregate is at or below that node.
use Rattle.std.proofs.Common.{◌≡◌, ℕ, ◌+◌, ◌≤◌, Bool, true, false, cond, List, Option, Some, None, refl, ap, ◌∙◌, arith}
use Rattle.std.proofs.Common.{◌&&◌, ◌||◌, ◌==◌, is_some}
use Rattle.std.proofs.lemmas.Bool.Decides.{nat_tests}
use Rattle.std.proofs.Common.{[], ◌++◌, IsTrue, IsSome, nat_le, is_none}
use Rattle.std.specs.declared.cmp.Ordering.{Ordering}
use Rattle.std.specs.Ordering.{nat_cmp, ordering_then, is_eq}
use Rattle.std.specs.Option.{option_cmp}
use Rattle.cpi_codes.specs.CodeOrder.{code_cmp}
use Rattle.cpi_codes.specs.CodeParts.{is_under, two_digits, dot_and_digit, dash_and_number, are_parts}
use Rattle.cpi_codes.specs.CodeText.{code_text, begins_with, are_one_text, all_items, is_code_at_or_below}
use Rattle.cpi_codes.specs.declared.codes.Code.{Code}
use Rattle.cpi_codes.proofs.CodeBytes.{absent_below}
use Rattle.cpi_codes.proofs.CodeBelow.{fits, begins_parts, begins_two, begins_nil, at_or_below_begins}

abbrev pub same_part : Option ℕ → Option ℕ → Bool
same_part None None = true
same_part None (Some e) = false
same_part (Some d) None = false
same_part (Some d) (Some e) = d == e

-- the amount, where two codes have the same parts
abbrev pub amount_if : ℕ → ℕ → Option ℕ → Option ℕ → Option ℕ → Option ℕ → ℕ → Option ℕ → Option ℕ → Option ℕ →
    Option ℕ → ℕ
amount_if v qd qg qc qs qa nd ng nc ns na = cond
    ((qd == nd) && (same_part qg ng && (same_part qc nc && (same_part qs ns && same_part qa na)))) v 0

pub path_sum : (v d g c s a qd : ℕ) (qg qc qs qa : Option ℕ) → 1 ≤ d → (is_some qg ≡ true → 1 ≤ qd) →
    (is_under qg qc && (is_under qc qs && is_under qs qa)) ≡ true →
    amount_if v qd qg qc qs qa 0 None None None None + amount_if v qd qg qc qs qa d None None None None + amount_if v
    qd qg qc qs qa d (Some g) None None None + amount_if v qd qg qc qs qa d (Some g)
    (Some c) None None + amount_if v qd qg qc qs qa d (Some g) (Some c) (Some s) None + amount_if v qd qg qc qs qa d
    (Some g) (Some c) (Some s) (Some a) ≡ cond ((qd == 0) ||
    ((d == qd) && (fits qg (Some g) && (fits qc (Some c) && (fits qs (Some s) && fits qa (Some a)))))) v 0
path_sum v d g c s a qd None None None None h k u = grind (arith, nat_tests)
path_sum v d g c s a qd (Some x) None None None h k u = let low : 1 ≤ qd = k refl in grind (arith, nat_tests)
path_sum v d g c s a qd (Some x) (Some y) None None h k u = let low : 1 ≤ qd = k refl in grind (arith, nat_tests)
path_sum v d g c s a qd (Some x) (Some y) (Some z) None h k u = let low : 1 ≤ qd = k refl in grind (arith, nat_tests)
path_sum v d g c s a qd (Some x) (Some y) (Some z) (Some w) h k u = let low : 1 ≤ qd = k refl in
    grind (arith, nat_tests)
path_sum v d g c s a qd None None None (Some w) h k u = cc
path_sum v d g c s a qd None None (Some z) qa h k u = cc
path_sum v d g c s a qd None (Some y) qs qa h k u = cc
path_sum v d g c s a qd (Some x) None None (Some w) h k u = cc
path_sum v d g c s a qd (Some x) None (Some z) qa h k u = cc
path_sum v d g c s a qd (Some x) (Some y) None (Some w) h k u = cc

is_eq_then : (a b : ℕ) (o : Ordering) → is_eq (ordering_then (nat_cmp a b) o) ≡ ((b == a) && is_eq o)
is_eq_then a b o = grind (arith, nat_tests)

is_eq_part : (x y : Option ℕ) (o : Ordering) → is_eq (ordering_then (option_cmp nat_cmp x y) o) ≡
    (same_part y x && is_eq o)
is_eq_part None None o = refl
is_eq_part None (Some e) o = refl
is_eq_part (Some d) None o = refl
is_eq_part (Some d) (Some e) o = is_eq_then d e o

is_eq_last : (x y : Option ℕ) → is_eq (option_cmp nat_cmp x y) ≡ same_part y x
is_eq_last None None = refl
is_eq_last None (Some e) = refl
is_eq_last (Some d) None = refl
is_eq_last (Some d) (Some e) = grind (arith, nat_tests)

-- codes compare equal where they have the same parts
pub is_eq_parts : (n q : Code) → is_eq (code_cmp n q) ≡
    ((q.division == n.division) && (same_part q.group n.group
    && (same_part q.class n.class && (same_part q.subclass n.subclass && same_part q.aggregate n.aggregate))))
is_eq_parts n q =
    is_eq_then n.division q.division _ ∙ ap (λ b. (q.division == n.division) && b)
    (is_eq_part n.group q.group _ ∙ ap (λ b. same_part q.group n.group && b)
    (is_eq_part n.class q.class _ ∙ ap (λ b. same_part q.class n.class && b)
    (is_eq_part n.subclass q.subclass _ ∙ ap (λ b. same_part q.subclass n.subclass && b)
    (is_eq_last n.aggregate q.aggregate))))

zero_test : (n : ℕ) (b : Bool) → (n ≡ 0 → b ≡ true) → (((n == 0) && true) && ((0 == n) && b)) ≡ (n == 0)
zero_test n b h = grind (arith, nat_tests)

zero_digits : (n : ℕ) (r : List ℕ) → (n ≡ 0 → r ≡ []) → are_one_text (two_digits n ++ r) all_items ≡ (n == 0)
zero_digits n r h =
    ap (λ b. b && begins_with all_items (two_digits n ++ r))
    (begins_two n 0 r [] ∙ ap (λ b. (n == 0) && b) (begins_nil r))
    ∙ ap (λ b. ((n == 0) && true) && b) (begins_two 0 n [] r)
    ∙ zero_test n (begins_with [] r) (λ e. ap (begins_with []) (h e))

alone : (n : ℕ) (g : Option ℕ) → (nat_le 1 n || is_none g) ≡ true → n ≡ 0 → g ≡ None
alone n None h e = refl
alone n (Some x) h e = absurd (grind (arith, nat_tests))

-- `00` has no further part
pub no_group : (q : Code) → q.division ≡ 0 → q.group ≡ None
no_group q e = alone q.division q.group (valid_alone q.division q.group q.class q.subclass q.aggregate q.valid) e where
  valid_alone : (d : ℕ) (g c s a : Option ℕ) → IsTrue (are_parts d g c s a) → (nat_le 1 d || is_none g) ≡ true
  valid_alone d g c s a h = grind (arith, nat_tests)

no_parts : (q : Code) → q.division ≡ 0 → dot_and_digit q.group
    ++ (dot_and_digit q.class ++ (dot_and_digit q.subclass ++ dash_and_number q.aggregate)) ≡ []
no_parts q e =
    let below = absent_below q.division q.group q.class q.subclass q.aggregate q.valid in
    let group = no_group q e in
    rw (group, below.0 group, below.1 (below.0 group), below.2 (below.1 (below.0 group))) refl

-- a code is at or below a node where the node is `00`, or its division is the node's and each further part of the
-- node fits
pub at_or_below_parts : (q c : Code) → is_code_at_or_below q c ≡
    ((q.division == 0) || ((c.division == q.division)
    && (fits q.group c.group && (fits q.class c.class
    && (fits q.subclass c.subclass && fits q.aggregate c.aggregate)))))
at_or_below_parts q c =
    at_or_below_begins q c
    ∙ ap (λ z. z || begins_with (code_text c) (code_text q))
    (zero_digits q.division (dot_and_digit q.group ++
    (dot_and_digit q.class ++ (dot_and_digit q.subclass ++ dash_and_number q.aggregate)))
    (no_parts q))
    ∙ ap (λ b. (q.division == 0) || b) (begins_parts c q)

-- the amount, where a code compares equal to these parts
abbrev pub amount_at : ℕ → Code → ℕ → Option ℕ → Option ℕ → Option ℕ → Option ℕ → ℕ
amount_at v q d g c s a = cond (is_eq (ordering_then (nat_cmp d q.division)
    (ordering_then (option_cmp nat_cmp g q.group)
    (ordering_then (option_cmp nat_cmp c q.class)
    (ordering_then (option_cmp nat_cmp s q.subclass) (option_cmp nat_cmp a q.aggregate)))))) v 0

amount_at_parts : (v : ℕ) (q : Code) (d : ℕ) (g c s a : Option ℕ) →
    amount_at v q d g c s a ≡ amount_if v q.division q.group q.class q.subclass q.aggregate d g c s a
amount_at_parts v q d g c s a =
    ap (λ b. cond b v 0)
    (is_eq_then d q.division _ ∙ ap (λ b. (q.division == d) && b)
    (is_eq_part g q.group _ ∙ ap (λ b. same_part q.group g && b)
    (is_eq_part c q.class _ ∙ ap (λ b. same_part q.class c && b)
    (is_eq_part s q.subclass _ ∙ ap (λ b. same_part q.subclass s && b) (is_eq_last a q.aggregate)))))

positive_below : (n : ℕ) (g : Option ℕ) → (nat_le 1 n || is_none g) ≡ true → is_some g ≡ true → 1 ≤ n
positive_below n None h k = cc
positive_below n (Some x) h k = grind (arith, nat_tests)

numbered_part : (d : ℕ) (g c s a : Option ℕ) → IsTrue (are_parts d g c s a) → (nat_le 1 d || is_none g) ≡ true
numbered_part d g c s a h = grind (arith, nat_tests)

nested_parts : (d : ℕ) (g c s a : Option ℕ) → IsTrue (are_parts d g c s a) →
    (is_under g c && (is_under c s && is_under s a)) ≡ true
nested_parts d g c s a h = grind (arith, nat_tests)

some_none : (x : ℕ) → Some x ≡ None → ⊥
some_none x e = cc

-- the amounts added along the path of a code with an aggregate
pub path_total : (v d : ℕ) (g c s a : Option ℕ) (q : Code) → IsTrue (are_parts d g c s a) → IsSome a →
    amount_at v q 0 None None None None + amount_at v q d None None None None + amount_at v q d g None None None +
    amount_at v q d g c None None + amount_at v q d g c s None + amount_at v q d g c s a ≡ cond
    ((q.division == 0) || ((d == q.division) && (fits q.group g
    && (fits q.class c && (fits q.subclass s && fits q.aggregate a))))) v 0
path_total v d (Some g) (Some c) (Some s) (Some a) q h i =
    let valid = numbered_part q.division q.group q.class q.subclass q.aggregate q.valid in
    let low = positive_below d (Some g) (numbered_part d (Some g) (Some c) (Some s) (Some a) h) refl in
    rw (
      amount_at_parts v q 0 None None None None,
      amount_at_parts v q d None None None None,
      amount_at_parts v q d (Some g) None None None,
      amount_at_parts v q d (Some g) (Some c) None None,
      amount_at_parts v q d (Some g) (Some c) (Some s) None,
      amount_at_parts v q d (Some g) (Some c) (Some s)
          (Some a),
    )
    (path_sum v d g c s a q.division q.group q.class q.subclass q.aggregate low
    (positive_below q.division q.group valid) (nested_parts q.division q.group q.class q.subclass q.aggregate
    q.valid))
path_total v d g c s None q h i = cc
path_total v d g c None (Some a) q h i = absurd (some_none a ((absent_below d g c None (Some a) h).2 refl))
path_total v d g None (Some s) (Some a) q h i =
    absurd (some_none s ((absent_below d g None (Some s) (Some a) h).1 refl))
path_total v d None (Some c) (Some s) (Some a) q h i =
    absurd (some_none c ((absent_below d None (Some c) (Some s) (Some a) h).0 refl))
