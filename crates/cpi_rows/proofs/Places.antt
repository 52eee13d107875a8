-- What a binary search among rows in order finds, and what an edit there does.
use Rattle.std.proofs.Common.{◌≡◌, ℕ, zero, suc, ◌<◌, ◌≤◌, Bool, true, false, List, [], ◌∷◌, ◌++◌, length, get_or, set}
use Rattle.std.proofs.Common.{take, drop, Some, None, Result, Ok, Err, refl, sym, ap, ◌∙◌, arith, inl, inr}
use Rattle.std.specs.Prelude.{filter}
use Rattle.std.specs.declared.cmp.Ordering.{Ordering}
use Rattle.std.specs.declared.cmp.Ordering.TheVariants.{Less, Equal, Greater}
use Rattle.std.specs.Ordering.{is_lt, is_gt, is_eq, ordering_index, ordering_reverse}
use Rattle.std.specs.Cmp.{IsTotalOrder}
use Rattle.std.specs.List.{AllByRecursion, insert}
use Rattle.std.specs.List.Sorted.{IsStrictlySortedBy, IsNonDecreasingBy, IsBinarySearchResult, IsSearchInRange}
use Rattle.std.proofs.lemmas.Cmp.{alike_right, upto}
use Rattle.std.proofs.lemmas.Bool.{cases_lt}
use Rattle.std.proofs.lemmas.Map.Keys.{sorted_head, sorted_tail, Less-from_sorted}
use Rattle.std.proofs.lemmas.List.Kept.{IsStrictlySortedBy-filter}
use Rattle.cpi_rows.specs.Keyed.{with_row, row_at, IsInOrder, IsPlace}

module _ {X K : Type 0} {R : K → K → Ordering} (o : IsTotalOrder R) (key : X → K) where
  abbrev c : X → X → Ordering
  c a b = R (key a) (key b)

  -- of two rows in order, the later one's key stands no lower against k
  rises : (a b k : K) → R a b ≡ Less → ordering_index (R a k) ≤ ordering_index (R b k)
  rises a b k less = cases (R a k) (R b k) refl refl
    where
      cases : (s t : Ordering) → R a k ≡ s → R b k ≡ t → ordering_index s ≤ ordering_index t
      cases Less Less p q = omega arith
      cases Less Equal p q = omega arith
      cases Less Greater p q = omega arith
      cases Equal Less p q = let e : Less ≡ Greater = sym less ∙ o.congr a k b p ∙ o.antisymm k b
          ∙ ap ordering_reverse q in cc
      cases Equal Equal p q = omega arith
      cases Equal Greater p q = omega arith
      cases Greater Less p q = let e : Less ≡ Greater = sym (o.trans a b k less q) ∙ p in cc
      cases Greater Equal p q = let e : Greater ≡ Less = sym (o.antisymm b a ∙ ap ordering_reverse less)
          ∙ o.congr b k a q ∙ o.antisymm k a ∙ ap ordering_reverse p in cc
      cases Greater Greater p q = omega arith

  module _ (rows : List X) (sorted : IsInOrder R key rows) (k : K) where
    comparisons_rise : IsNonDecreasingBy (λ row. ordering_index (R (key row) k)) rows
    comparisons_rise i j d le in_range = elim (cases_lt i j) [
      | inl lt ↦ rises _ _ k (Less-from_sorted c rows i j d sorted lt in_range)
      | inr ge ↦ let same : i ≡ j = omega arith in rw same (omega arith)
    ]

    pub placed : (r : Result ℕ ℕ) → IsSearchInRange r (length rows) →
        IsBinarySearchResult (λ row. R (key row) k) rows r → IsPlace R key k rows r
    placed (Ok at) in_range equal = (in_range, equal)
    placed (Err at) in_range parted = (
      in_range,
      λ j d lt. (parted comparisons_rise).0 j d (omega arith) lt,
      λ j d le lt. (parted comparisons_rise).1 j d le lt,
    )

  -- the row at the place of the key is the one with the key
  pub row_found : (rows : List X) → IsInOrder R key rows → (k : K) (i : ℕ) (d : X) → i < length rows →
      R (key (get_or rows i d)) k ≡ Equal → row_at R key k rows ≡ Some (get_or rows i d)
  row_found [] sorted k i d in_range same = absurd (omega arith)
  row_found (x ∷ xs) sorted k zero d in_range same = rw same refl
  row_found (x ∷ xs) sorted k (suc i) d in_range same =
      let less : R (key x) k ≡ Less = sym (alike_right o (key (get_or xs i d)) k (key x) same)
      ∙ Less-from_sorted c (x ∷ xs) 0 (suc i) d sorted (omega arith) in_range in
      rw less (row_found xs (sorted_tail c x xs sorted) k i d (omega arith) same)

  -- if no row ties with the key, none has it
  pub row_missing : (rows : List X) (k : K) → ((j : ℕ) (d : X) → j < length rows →
      is_eq (R (key (get_or rows j d)) k) ≡ false) → row_at R key k rows ≡ None
  row_missing [] k none = refl
  row_missing (x ∷ xs) k none = rw (none 0 x (omega arith)) (row_missing xs k (λ j d lt. none (suc j) d (omega arith)))

-- a test that holds below a place and from there on no more, and the other way round
filter_front : {X : Type 0} (p : X → Bool) (xs : List X) (i : ℕ) → i ≤ length xs →
    ((j : ℕ) (d : X) → j < i → p (get_or xs j d) ≡ true) →
    ((j : ℕ) (d : X) → i ≤ j → j < length xs → p (get_or xs j d) ≡ false) → filter p xs ≡ take i xs
filter_front p [] zero le hits misses = refl
filter_front p [] (suc i) le hits misses = refl
filter_front p (x ∷ xs) zero le hits misses =
    rw (misses 0 x (omega arith) (omega arith)) (filter_front p xs zero (omega arith) (λ j d lt. absurd (omega arith))
    (λ j d ge lt. misses (suc j) d (omega arith) (omega arith)))
filter_front p (x ∷ xs) (suc i) le hits misses =
    rw (hits 0 x (omega arith)) (ap (λ ys. x ∷ ys)
    (filter_front p xs i (omega arith) (λ j d lt. hits (suc j) d (omega arith))
    (λ j d ge lt. misses (suc j) d (omega arith) (omega arith))))

filter_back : {X : Type 0} (p : X → Bool) (xs : List X) (i : ℕ) → i ≤ length xs →
    ((j : ℕ) (d : X) → j < i → p (get_or xs j d) ≡ false) →
    ((j : ℕ) (d : X) → i ≤ j → j < length xs → p (get_or xs j d) ≡ true) → filter p xs ≡ drop i xs
filter_back p [] zero le misses hits = refl
filter_back p [] (suc i) le misses hits = refl
filter_back p (x ∷ xs) zero le misses hits = rw (hits 0 x (omega arith) (omega arith))
    (ap (λ ys. x ∷ ys) (filter_back p xs zero (omega arith) (λ j d lt. absurd (omega arith))
    (λ j d ge lt. hits (suc j) d (omega arith) (omega arith))))
filter_back p (x ∷ xs) (suc i) le misses hits =
    rw (misses 0 x (omega arith)) (filter_back p xs i (omega arith) (λ j d lt. misses (suc j) d (omega arith))
    (λ j d ge lt. hits (suc j) d (omega arith) (omega arith)))

set_parts : {X : Type 0} (xs : List X) (i : ℕ) (y : X) → i < length xs → set xs i y ≡ take i xs ++ y ∷ drop (suc i) xs
set_parts [] i y lt = absurd (omega arith)
set_parts (x ∷ xs) zero y lt = refl
set_parts (x ∷ xs) (suc i) y lt = ap (λ ys. x ∷ ys) (set_parts xs i y (omega arith))

module _ {X K : Type 0} {R : K → K → Ordering} (o : IsTotalOrder R) (key : X → K) where
  -- an insert at the gap for the key puts the row in its place
  pub put_at_gap : (rows : List X) (row : X) (i : ℕ) → IsPlace R key (key row) rows (Err i) →
      insert rows i row ≡ with_row R key row rows
  put_at_gap rows row i place =
      let front = filter_front (λ r. is_lt (R (key r) (key row))) rows i place.0 (λ j d lt. ap is_lt (place.1 j d lt))
      (λ j d ge lt. ap is_lt (place.2 j d ge lt)) in
      let back = filter_back (λ r. is_gt (R (key r) (key row))) rows i place.0 (λ j d lt. ap is_gt (place.1 j d lt))
      (λ j d ge lt. ap is_gt (place.2 j d ge lt)) in
      rw (front, back) refl

  pub missing_at_gap : (rows : List X) (k : K) (i : ℕ) → IsPlace R key k rows (Err i) → row_at R key k rows ≡ None
  missing_at_gap rows k i place = row_missing o key rows k (λ j d lt. elim (cases_lt j i) [
    | inl below ↦ ap is_eq (place.1 j d below)
    | inr above ↦ ap is_eq (place.2 j d above lt)
  ])

  -- a write over the row with the key puts the row in its place
  pub put_at_row : (rows : List X) → IsInOrder R key rows → (row : X) (i : ℕ) → IsPlace R key (key row) rows (Ok i) →
      set rows i row ≡ with_row R key row rows
  put_at_row rows sorted row i place =
      let k = key row in
      let below : (j : ℕ) (d : X) → j < i → R (key (get_or rows j d)) k ≡ Less =
      λ j d lt. sym (alike_right o (key (get_or rows i d)) k (key (get_or rows j d)) (place.1 d))
      ∙ Less-from_sorted (λ a b. R (key a) (key b)) rows j i d sorted lt place.0 in
      let above : (j : ℕ) (d : X) → i < j → j < length rows → R (key (get_or rows j d)) k ≡ Greater =
      λ j d lt in_range. o.antisymm (key (get_or rows j d)) k
      ∙ ap ordering_reverse (sym (o.congr (key (get_or rows i d)) k (key (get_or rows j d)) (place.1 d))
      ∙ Less-from_sorted (λ a b. R (key a) (key b)) rows i j d sorted lt in_range) in
      let here : (j : ℕ) (d : X) → j ≡ i → R (key (get_or rows j d)) k ≡ Equal = λ j d same. rw same (place.1 d) in
      let front = filter_front (λ r. is_lt (R (key r) k)) rows i (omega (arith, place.0))
      (λ j d lt. ap is_lt (below j d lt)) (λ j d ge lt. elim
      (cases_lt i j) [ inl past ↦ ap is_lt (above j d past lt) | inr upto ↦ ap is_lt (here j d (omega arith)) ]) in
      let back = filter_back (λ r. is_gt (R (key r) k)) rows (suc i) (omega (arith, place.0))
      (λ j d lt. elim (cases_lt j i) [
        | inl before ↦ ap is_gt (below j d before)
        | inr from ↦ ap is_gt
            (here j d (omega arith))
      ]) (λ j d ge lt. ap is_gt (above j d (omega arith) lt)) in
      rw (front, back) (set_parts rows i row place.0)

  lower : (k : K) (xs : List X) → AllByRecursion (λ x. R (key x) k ≡ Less) (filter (λ x. is_lt (R (key x) k)) xs)
  lower k [] = tt
  lower k (x ∷ xs) = cases (R (key x) k) refl (lower k xs)
    where
      cases : (s : Ordering) → R (key x) k ≡ s → AllByRecursion (λ x. R (key x) k ≡ Less)
          (filter (λ x. is_lt (R (key x) k)) xs) → AllByRecursion (λ x. R (key x) k ≡ Less)
          (filter (λ x. is_lt (R (key x) k)) (x ∷ xs))
      cases Less p rest = rw (ap is_lt p) (p, rest)
      cases Equal p rest = rw (ap is_lt p) rest
      cases Greater p rest = rw (ap is_lt p) rest

  higher : (k : K) (xs : List X) → AllByRecursion (λ x. R k (key x) ≡ Less) (filter (λ x. is_gt (R (key x) k)) xs)
  higher k [] = tt
  higher k (x ∷ xs) = cases (R (key x) k) refl (higher k xs)
    where
      cases : (s : Ordering) → R (key x) k ≡ s → AllByRecursion (λ x. R k (key x) ≡ Less)
          (filter (λ x. is_gt (R (key x) k)) xs) → AllByRecursion (λ x. R k (key x) ≡ Less)
          (filter (λ x. is_gt (R (key x) k)) (x ∷ xs))
      cases Less p rest = rw (ap is_gt p) rest
      cases Equal p rest = rw (ap is_gt p) rest
      cases Greater p rest = rw (ap is_gt p) (o.antisymm k (key x) ∙ ap ordering_reverse p, rest)

  above_too : (a b : X) (ys : List X) → R (key a) (key b) ≡ Less → AllByRecursion (λ y. R (key b) (key y) ≡ Less) ys →
      AllByRecursion (λ y. R (key a) (key y) ≡ Less) ys
  above_too a b [] less all = tt
  above_too a b (y ∷ ys) less all = (o.trans (key a) (key b) (key y) less all.0, above_too a b ys less all.1)

  all_joined : (P : X → Type 0) (xs ys : List X) → AllByRecursion P xs → AllByRecursion P ys →
      AllByRecursion P (xs ++ ys)
  all_joined P [] ys p q = q
  all_joined P (x ∷ xs) ys p q = (p.0, all_joined P xs ys p.1 q)

  joined : (xs : List X) (row : X) (ys : List X) → IsInOrder R key xs → IsInOrder R key ys →
      AllByRecursion (λ x. R (key x) (key row) ≡ Less) xs → AllByRecursion (λ y. R (key row) (key y) ≡ Less) ys →
      IsInOrder R key (xs ++ row ∷ ys)
  unfolding IsStrictlySortedBy
  joined [] row ys p q before after = (after, q)
  joined (x ∷ xs) row ys p q before after = (
    all_joined _ xs (row ∷ ys) p.0 (before.0, above_too x row ys before.0 after),
    joined xs row ys p.1 q before.1 after,
  )

  -- rows stay in order
  pub put_in_order : (rows : List X) (row : X) → IsInOrder R key rows → IsInOrder R key (with_row R key row rows)
  put_in_order rows row sorted =
      joined _ row _ (IsStrictlySortedBy-filter _ _ rows sorted) (IsStrictlySortedBy-filter _ _ rows sorted)
      (lower (key row) rows) (higher (key row) rows)

pub none_in_order : {X K : Type 0} (R : K → K → Ordering) (key : X → K) → IsInOrder R key []
unfolding IsStrictlySortedBy
none_in_order R key = tt

module _ {X K : Type 0} {R : K → K → Ordering} (o : IsTotalOrder R) (key : X → K) where
  module _ (k : K) where
    past : (y : X) (ys : List X) → (s : Ordering) → R (key y) k ≡ s → is_lt s ≡ false →
        AllByRecursion (λ z. R (key y) (key z) ≡ Less) ys → AllByRecursion (λ z. R (key z) k ≡ Greater) ys
    past y [] s e high all = tt
    past y (z ∷ ys) Less e high all = let wrong : true ≡ false = high in cc
    past y (z ∷ ys) Equal e high all = (
      o.antisymm (key z) k
          ∙ ap ordering_reverse (sym (o.congr (key y) k (key z) e) ∙ all.0),
      past y ys Equal e high all.1,
    )
    past y (z ∷ ys) Greater e high all = (
      o.antisymm (key z) k
          ∙ ap ordering_reverse (o.trans k (key y) (key z) (o.antisymm k (key y) ∙ ap ordering_reverse e) all.0),
      past y ys Greater e high all.1,
    )

    past_front : (ys : List X) → AllByRecursion (λ z. R (key z) k ≡ Greater) ys →
        filter (λ z. is_lt (R (key z) k)) ys ≡ []
    past_front [] all = refl
    past_front (z ∷ ys) all = rw (ap is_lt all.0) (past_front ys all.1)

    past_back : (ys : List X) → AllByRecursion (λ z. R (key z) k ≡ Greater) ys →
        filter (λ z. is_gt (R (key z) k)) ys ≡ ys
    past_back [] all = refl
    past_back (z ∷ ys) all = rw (ap is_gt all.0) (ap (λ zs. z ∷ zs) (past_back ys all.1))

    past_none : (ys : List X) → AllByRecursion (λ z. R (key z) k ≡ Greater) ys → row_at R key k ys ≡ None
    past_none [] all = refl
    past_none (z ∷ ys) all = rw (ap is_eq all.0) (past_none ys all.1)

  same_more : (x y : X) (ys : List X) → (s : Ordering) → R (key y) (key x) ≡ s →
      AllByRecursion (λ z. R (key y) (key z) ≡ Less) ys → row_at R key (key x) (y ∷ ys) ≡ Some x →
      (row_at R key (key x) ys ≡ Some x → with_row R key x ys ≡ ys) → with_row R key x (y ∷ ys) ≡ y ∷ ys
  same_more x y ys Less e all found rest = rw (ap is_lt e, ap is_gt e)
      (ap (λ zs. y ∷ zs) (rest (rw (ap is_eq e) at found)))
  same_more x y ys Equal e all found rest =
      let above = past (key x) y ys Equal e refl all in
      let here : Some y ≡ Some x = rw (ap is_eq e) at found in
      let same : x ≡ y = cc in
      rw (ap is_lt e, ap is_gt e, past_front (key x) ys above, past_back (key x) ys above) (ap (λ z. z ∷ ys) same)
  same_more x y ys Greater e all found rest =
      let none : row_at R key (key x) ys ≡ None = past_none (key x) ys (past (key x) y ys Greater e refl all) in
      let wrong : None ≡ Some x = sym none ∙ (rw (ap is_eq e) at found) in cc

  -- to put a row that is there already changes nothing
  pub put_same : (rows : List X) → IsInOrder R key rows → (x : X) → row_at R key (key x) rows ≡ Some x →
      with_row R key x rows ≡ rows
  put_same [] sorted x found = let wrong : None ≡ Some x = found in cc
  put_same (y ∷ ys) sorted x found = same_more x y ys (R (key y) (key x)) refl (sorted_head _ y ys sorted) found
      (λ f. put_same ys (sorted_tail _ y ys sorted) x f)

  parted_more : (k : K) (y : X) (ys : List X) → (s : Ordering) → R (key y) k ≡ s →
      AllByRecursion (λ z. R (key y) (key z) ≡ Less) ys → row_at R key k (y ∷ ys) ≡ None →
      (row_at R key k ys ≡ None → filter (λ z. is_lt (R (key z) k)) ys ++ filter (λ z. is_gt (R (key z) k)) ys ≡ ys) →
      filter (λ z. is_lt (R (key z) k)) (y ∷ ys) ++ filter (λ z. is_gt (R (key z) k)) (y ∷ ys) ≡ y ∷ ys
  parted_more k y ys Less e all missing rest = rw (ap is_lt e, ap is_gt e)
      (ap (λ zs. y ∷ zs) (rest (rw (ap is_eq e) at missing)))
  parted_more k y ys Equal e all missing rest = let wrong : Some y ≡ None = rw (ap is_eq e) at missing in cc
  parted_more k y ys Greater e all missing rest =
      let above = past k y ys Greater e refl all in
      rw (ap is_lt e, ap is_gt e, past_front k ys above, past_back k ys above) refl

  -- a key that no row has parts the rows into those below and those above it
  pub parted : (k : K) (rows : List X) → IsInOrder R key rows → row_at R key k rows ≡ None →
      filter (λ z. is_lt (R (key z) k)) rows ++ filter (λ z. is_gt (R (key z) k)) rows ≡ rows
  parted k [] sorted missing = refl
  parted k (y ∷ ys) sorted missing = parted_more k y ys (R (key y) k) refl (sorted_head _ y ys sorted) missing
      (λ m. parted k ys (sorted_tail _ y ys sorted) m)
