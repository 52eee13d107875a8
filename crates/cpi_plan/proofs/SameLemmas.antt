-- Two lists in order in which each key finds the same are one list.
use Rattle.std.proofs.Common.{◌≡◌, cond, List, [], ◌∷◌, Some, None, refl, sym, ap, ◌∙◌, subst}
use Rattle.std.specs.declared.cmp.Ordering.{Ordering}
use Rattle.std.specs.declared.cmp.Ordering.TheVariants.{Less, Equal, Greater}
use Rattle.std.specs.Ordering.{is_eq, ordering_reverse}
use Rattle.std.specs.Cmp.{IsTotalOrder}
use Rattle.std.specs.List.{AllByRecursion}
use Rattle.std.specs.List.Sorted.{IsStrictlySortedBy}
use Rattle.std.proofs.lemmas.Cmp.{tied_itself, tied_back}
use Rattle.cpi_rows.specs.Keyed.{row_at, IsInOrder}

module _ {X K : Type 0} {R : K → K → Ordering} (o : IsTotalOrder R) (key : X → K) where
  -- no row above j has a key that ties with j
  above_none : (j k : K) (ys : List X) → AllByRecursion (λ y. R j (key y) ≡ Less) ys → R j k ≡ Equal →
      row_at R key k ys ≡ None
  above_none j k [] above e = refl
  above_none j k (y ∷ ys) above e = cases (R (key y) k) refl (above_none j k ys above.1 e)
    where
      cases : (s : Ordering) → R (key y) k ≡ s → row_at R key k ys ≡ None →
          cond (is_eq s) (Some y) (row_at R key k ys) ≡ None
      cases Less p h = h
      cases Greater p h = h
      cases Equal p h = let clash : Less ≡ Equal = sym above.0 ∙ o.congr j k (key y) e ∙ tied_back o (key y) k p in cc

  above_trans : (j k : K) (ys : List X) → R j k ≡ Less → AllByRecursion (λ y. R k (key y) ≡ Less) ys →
      AllByRecursion (λ y. R j (key y) ≡ Less) ys
  above_trans j k [] p above = tt
  above_trans j k (y ∷ ys) p above = (o.trans j k (key y) p above.0, above_trans j k ys p above.1)

  here : (x : X) (xs : List X) → row_at R key (key x) (x ∷ xs) ≡ Some x
  here x xs = ap (λ b. cond (is_eq b) (Some x) (row_at R key (key x) xs)) (tied_itself o (key x))

  -- a key below all of a list is not in it
  below_none : (x y : X) (ys : List X) → R (key x) (key y) ≡ Less →
      AllByRecursion (λ z. R (key y) (key z) ≡ Less) ys → row_at R key (key x) (y ∷ ys) ≡ None
  below_none x y ys p above = above_none (key x) (key x) (y ∷ ys) (p, above_trans (key x) (key y) ys p above)
      (tied_itself o (key x))

  head_is : (x y : X) (xs ys : List X) → AllByRecursion (λ z. R (key x) (key z) ≡ Less) xs →
      AllByRecursion (λ z. R (key y) (key z) ≡ Less) ys →
      ((k : K) → row_at R key k (x ∷ xs) ≡ row_at R key k (y ∷ ys)) → (s : Ordering) → R (key x) (key y) ≡ s → x ≡ y
  head_is x y xs ys a b h Equal p = let e : Some x ≡ Some y = sym (here x xs) ∙ h (key x)
      ∙ ap (λ t. cond (is_eq t) (Some y) (row_at R key (key x) ys)) (tied_back o (key x) (key y) p) in cc
  head_is x y xs ys a b h Less p = let e : Some x ≡ None = sym (here x xs) ∙ h (key x) ∙ below_none x y ys p b in cc
  head_is x y xs ys a b h Greater p = let e : Some y ≡ None = sym (here y ys) ∙ sym (h (key y))
      ∙ below_none y x xs (o.antisymm (key y) (key x) ∙ ap ordering_reverse p) a in cc

  tail_is : (x : X) (xs ys : List X) → AllByRecursion (λ z. R (key x) (key z) ≡ Less) xs →
      AllByRecursion (λ z. R (key x) (key z) ≡ Less) ys → (k : K) → (s : Ordering) → R (key x) k ≡ s →
      cond (is_eq s) (Some x) (row_at R key k xs) ≡ cond (is_eq s) (Some x) (row_at R key k ys) →
      row_at R key k xs ≡ row_at R key k ys
  tail_is x xs ys a b k Equal p h = above_none (key x) k xs a p ∙ sym (above_none (key x) k ys b p)
  tail_is x xs ys a b k Less p h = h
  tail_is x xs ys a b k Greater p h = h

  pub same_rows : (xs ys : List X) → IsInOrder R key xs → IsInOrder R key ys →
      ((k : K) → row_at R key k xs ≡ row_at R key k ys) → xs ≡ ys
  unfolding IsStrictlySortedBy
  same_rows [] [] s t h = refl
  same_rows [] (y ∷ ys) s t h = let e : None ≡ Some y = h (key y) ∙ here y ys in cc
  same_rows (x ∷ xs) [] s t h = let e : Some x ≡ None = sym (here x xs) ∙ h (key x) in cc
  same_rows (x ∷ xs) (y ∷ ys) s t h =
      let same : x ≡ y = head_is x y xs ys s.0 t.0 h (R (key x) (key y)) refl in
      let above : AllByRecursion (λ z. R (key x) (key z) ≡ Less) ys =
      subst (λ v. AllByRecursion (λ z. R (key v) (key z) ≡ Less) ys) (sym same) t.0 in
      let rest : xs ≡ ys = same_rows xs ys s.1 t.1 (λ k. tail_is x xs ys s.0 above k (R (key x) k) refl
      (h k ∙ ap (λ v. row_at R key k (v ∷ ys)) (sym same))) in
      rw (same, rest) refl
