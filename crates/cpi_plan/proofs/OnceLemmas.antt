-- A sorted list whose keys rise has no key twice, and one whose keys falter has.
use Rattle.std.proofs.Common.{◌≡◌, ℕ, ◌+◌, ◌<◌, ◌≤◌, Bool, true, false, List, [], ◌∷◌, length, get_or, refl, sym, ap}
use Rattle.std.proofs.Common.{◌∙◌, subst, arith, suc, inl, inr, Result, Ok, Err}
use Rattle.std.specs.declared.cmp.Ordering.{Ordering}
use Rattle.std.specs.declared.cmp.Ordering.TheVariants.{Less, Equal, Greater}
use Rattle.std.specs.Ordering.{is_lt, is_eq, eq_by_cmp, ordering_reverse}
use Rattle.std.specs.Bool.{MatchBool}
use Rattle.std.specs.Cmp.{IsTotalOrder}
use Rattle.std.specs.Prelude.{is_ok, ◌⊎◌}
use Rattle.std.specs.List.{IsDistinct, list_any}
use Rattle.std.specs.List.Sorted.{IsSorted, IsSearchInRange, IsPartitionPoint, IsBinarySearchResult, IsSortedByKey}
use Rattle.std.specs.List.Sorted.{IsPermutation}
use Rattle.std.proofs.lemmas.Cmp.{eq_by_cmp_equiv}
use Rattle.std.proofs.lemmas.List.Sorted.{IsPermutation-sym, searchable_from_sorted}
use Rattle.std.proofs.lemmas.Bool.{cases_lt}
use Rattle.std.proofs.lemmas.List.Folds.{list_any_at}
use Rattle.std.proofs.lemmas.Map.Keys.{IsDistinct-from_sorted, IsDistinct-IsPermutation, apart_from_distinct}
use Rattle.cpi_rows.specs.Keyed.{IsInOrder, Falters}
use Rattle.cpi_rows.proofs.Rising.{by_key_total}

-- rows that come into order have no key twice
pub once_from_order : {X K : Type 0} {cmp : K → K → Ordering} → IsTotalOrder cmp → (key : X → K) (xs ys : List X) →
    IsPermutation xs ys → IsInOrder cmp key ys → IsDistinct (λ a b. is_eq (cmp (key a) (key b))) xs
once_from_order {X = X} {cmp = cmp} o key xs ys p s =
    let R : X → X → Ordering = λ a b. cmp (key a) (key b) in
    IsDistinct-IsPermutation (eq_by_cmp R) (eq_by_cmp_equiv (by_key_total o key)).symm ys xs
    (IsPermutation-sym xs ys p) (IsDistinct-from_sorted R ys s)

neither : (a b : Ordering) → a ≡ ordering_reverse b → is_lt a ≡ false → is_lt b ≡ false → is_eq a ≡ true
neither Less b e f g = cc
neither Equal b e f g = refl
neither Greater Less e f g = cc
neither Greater Equal e f g = cc
neither Greater Greater e f g = cc

false_true : false ≡ true → ⊥
false_true e = cc

pub twice_from_sort : {X K : Type 0} {cmp : K → K → Ordering} → IsTotalOrder cmp → (key : X → K) (xs ys : List X) →
    IsPermutation xs ys → IsSortedByKey key cmp ys → Falters cmp key ys →
    IsDistinct (λ a b. is_eq (cmp (key a) (key b))) xs → ⊥
twice_from_sort o key xs [] p s f distinct = absurd (omega (arith, f.1))
twice_from_sort {X = X} {cmp = cmp} o key xs (y ∷ ys) p s f distinct =
    let R : X → X → Ordering = λ a b. cmp (key a) (key b) in
    let d = IsDistinct-IsPermutation (eq_by_cmp R) (eq_by_cmp_equiv (by_key_total o key)).symm xs (y ∷ ys) p distinct in
    let apart = apart_from_distinct (eq_by_cmp R) (y ∷ ys) f.0 (f.0 + 1) y d (omega arith) f.1 in
    let same = neither _ _ (o.antisymm (key (get_or (y ∷ ys) f.0 y)) (key (get_or (y ∷ ys) (f.0 + 1) y))) (f.2 y)
    (s f.0 y (omega arith) f.1) in
    absurd (false_true (sym apart ∙ same))

-- what the check of rows put in order says
pub once_by_sort : {X K : Type 0} {cmp : K → K → Ordering} → IsTotalOrder cmp →
    (key : X → K) (xs ys seen : List X) (b : Bool) → IsPermutation xs ys → IsSortedByKey key cmp ys → seen ≡ ys →
    MatchBool b (IsInOrder cmp key seen) (Falters cmp key seen) →
    MatchBool b (IsInOrder cmp key ys) (IsDistinct (λ a b. is_eq (cmp (key a) (key b))) xs → ⊥)
once_by_sort {cmp = cmp} o key xs ys seen true p s f h = subst (IsInOrder cmp key) f h
once_by_sort {cmp = cmp} o key xs ys seen false p s f h = twice_from_sort o key xs ys p s (subst (Falters cmp key) f h)

none_at : {X : Type 0} (p : X → Bool) (xs : List X) → ((j : ℕ) (d : X) → j < length xs → p (get_or xs j d) ≡ false) →
    list_any p xs ≡ false
none_at p [] h = refl
none_at p (x ∷ xs) h = rw (h 0 x (omega arith)) (none_at p xs (λ j d lt. h (suc j) d (omega arith)))

-- what a binary search says of values in order
pub among_found : {T : Type 0} {cmp : T → T → Ordering} → IsTotalOrder cmp → (xs : List T) (x : T) → IsSorted cmp xs →
    (r : Result ℕ ℕ) → IsSearchInRange r (length xs) → IsBinarySearchResult (λ y. cmp y x) xs r →
    is_ok r ≡ list_any (λ v. is_eq (cmp v x)) xs
among_found {cmp = cmp} o xs x sorted (Ok at) in_range equal =
    sym (list_any_at (λ v. is_eq (cmp v x)) xs at x in_range (ap is_eq (equal x)))
among_found {T = T} {cmp = cmp} o xs x sorted (Err at) in_range parted =
    let facts = parted (searchable_from_sorted o (λ y. y) xs x sorted) in
    sym (none_at (λ v. is_eq (cmp v x)) xs (λ j d lt. cases j d lt facts (cases_lt j at)))
  where
    cases : (j : ℕ) (d : T) → j < length xs → IsPartitionPoint (λ y. cmp y x ≡ Less) (λ y. cmp y x ≡ Greater) xs at →
        (j < at) ⊎ (at ≤ j) → is_eq (cmp (get_or xs j d) x) ≡ false
    cases j d lt facts (inl below) = ap is_eq (facts.0 j d (omega arith) below)
    cases j d lt facts (inr above) = ap is_eq (facts.1 j d above lt)
