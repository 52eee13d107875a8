-- Rows put in order one by one: in order, and each key finds what it found before.
use Rattle.std.proofs.Common.{◌≡◌, Bool, true, false, cond, List, [], ◌∷◌, Some, refl, sym, ap, ◌∙◌, ◌&&◌, ◌||◌, not}
use Rattle.std.specs.declared.cmp.Ordering.{Ordering}
use Rattle.std.specs.declared.cmp.Ordering.TheVariants.{Less, Equal, Greater}
use Rattle.std.specs.Ordering.{is_eq}
use Rattle.std.specs.Cmp.{IsTotalOrder}
use Rattle.std.specs.List.{list_any, AllByRecursion, IsDistinct}
use Rattle.std.proofs.lemmas.Cmp.{alike_right}
use Rattle.cpi_rows.specs.Keyed.{row_at, with_row, IsInOrder}
use Rattle.cpi_rows.proofs.Places.{put_in_order, none_in_order}
use Rattle.cpi_rows.proofs.Puts.{row_at_put_same, row_at_put_apart}
use Rattle.cpi_plan.specs.Planned.{are_distinct, rows_in_order}

module _ {X K : Type 0} {R : K → K → Ordering} (o : IsTotalOrder R) (key : X → K) where
  pub is_in_order : (xs : List X) → IsInOrder R key (rows_in_order R key xs)
  is_in_order [] = none_in_order R key
  is_in_order (x ∷ xs) = put_in_order o key (rows_in_order R key xs) x (is_in_order xs)

  -- equal keys find the same
  tied_rows : (j k : K) → R j k ≡ Equal → (xs : List X) → row_at R key k xs ≡ row_at R key j xs
  tied_rows j k e [] = refl
  tied_rows j k e (x ∷ xs) = ap (λ s. cond (is_eq s) (Some x) (row_at R key k xs)) (sym (alike_right o j k (key x) e))
      ∙ ap (λ r. cond (is_eq (R (key x) j)) (Some x) r) (tied_rows j k e xs)

  pub row_in_order : (k : K) (xs : List X) → row_at R key k (rows_in_order R key xs) ≡ row_at R key k xs
  row_in_order k [] = refl
  row_in_order k (x ∷ xs) = cases (R (key x) k) refl (row_in_order k xs)
    where
      cases : (s : Ordering) → R (key x) k ≡ s → row_at R key k (rows_in_order R key xs) ≡ row_at R key k xs →
          row_at R key k (with_row R key x (rows_in_order R key xs)) ≡ cond (is_eq s) (Some x) (row_at R key k xs)
      cases Equal e h = tied_rows (key x) k e (with_row R key x (rows_in_order R key xs))
          ∙ row_at_put_same o key x (rows_in_order R key xs)
      cases Less e h = row_at_put_apart o key k x (rows_in_order R key xs) (is_in_order xs) (ap is_eq e) ∙ h
      cases Greater e h = row_at_put_apart o key k x (rows_in_order R key xs) (is_in_order xs) (ap is_eq e) ∙ h

module _ {X : Type 0} (same : X → X → Bool) where
  none_later : (x : X) (xs : List X) → AllByRecursion (λ y. same x y ≡ false) xs → list_any (same x) xs ≡ false
  none_later x [] h = refl
  none_later x (y ∷ ys) h = rw h.0 (none_later x ys h.1)

  pub distinct : (xs : List X) → IsDistinct same xs → are_distinct same xs ≡ true
  unfolding IsDistinct
  distinct [] h = refl
  distinct (x ∷ xs) h = rw (none_later x xs h.0) (distinct xs h.1)

  or_false : (a b : Bool) → (a || b) ≡ false → (a ≡ false) × (b ≡ false)
  or_false true b h = cc
  or_false false b h = (refl, h)

  all_later : (x : X) (xs : List X) → list_any (same x) xs ≡ false → AllByRecursion (λ y. same x y ≡ false) xs
  all_later x [] h = tt
  all_later x (y ∷ ys) h = let both = or_false (same x y) (list_any (same x) ys) h in (both.0, all_later x ys both.1)

  and_not : (a b : Bool) → (not a && b) ≡ true → (a ≡ false) × (b ≡ true)
  and_not true b h = cc
  and_not false b h = (refl, h)

  pub from_distinct : (xs : List X) → are_distinct same xs ≡ true → IsDistinct same xs
  unfolding IsDistinct
  from_distinct [] h = tt
  from_distinct (x ∷ xs) h = let both = and_not (list_any (same x) xs) (are_distinct same xs) h in
      (all_later x xs both.0, from_distinct xs both.1)

  pub not_distinct : (xs : List X) → (IsDistinct same xs → ⊥) → are_distinct same xs ≡ false
  not_distinct xs h = cases (are_distinct same xs) refl
    where
      cases : (b : Bool) → are_distinct same xs ≡ b → b ≡ false
      cases true e = absurd (h (from_distinct xs e))
      cases false e = refl
