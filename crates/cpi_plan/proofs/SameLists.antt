-- Lists that are the same row by row.
use Rattle.std.proofs.Common.{◌≡◌, ℕ, zero, suc, ◌<◌, Bool, true, false, List, [], ◌∷◌, length, get_or, refl, sym, ap}
use Rattle.std.proofs.Common.{arith}
use Rattle.std.specs.Cmp.Lexicographic.{pointwise}
use Rattle.cpi_rows.proofs.Truth.{and_false_second}

module _ {X : Type 0} (E : X → X → Bool) where
  pub other_length : (xs ys : List X) → (length xs ≡ length ys → ⊥) → pointwise E xs ys ≡ false
  other_length [] [] h = absurd (h refl)
  other_length [] (y ∷ ys) h = refl
  other_length (x ∷ xs) [] h = refl
  other_length (x ∷ xs) (y ∷ ys) h =
      and_false_second (E x y) (pointwise E xs ys) (other_length xs ys (λ e. h (ap suc e)))

  pub differ_at : (xs ys : List X) (i : ℕ) (x y : X) → i < length xs → i < length ys → x ≡ get_or xs i x →
      y ≡ get_or ys i y → E x y ≡ false → pointwise E xs ys ≡ false
  differ_at [] ys i x y h k p q e = absurd (omega (arith, h))
  differ_at (u ∷ us) [] i x y h k p q e = absurd (omega (arith, k))
  differ_at (u ∷ us) (v ∷ vs) zero x y h k p q e = rw (sym p, sym q, e) refl
  differ_at (u ∷ us) (v ∷ vs) (suc i) x y h k p q e =
      and_false_second (E u v) (pointwise E us vs) (differ_at us vs i x y (omega (arith, h)) (omega (arith, k)) p q e)

  pub same_all : (xs ys : List X) → length xs ≡ length ys →
      ((k : ℕ) (d : X) → k < length xs → E (get_or xs k d) (get_or ys k d) ≡ true) → pointwise E xs ys ≡ true
  same_all [] [] e h = refl
  same_all [] (y ∷ ys) e h = absurd (omega (arith, e))
  same_all (x ∷ xs) [] e h = absurd (omega (arith, e))
  same_all (x ∷ xs) (y ∷ ys) e h = rw (h 0 x (omega arith))
      (same_all xs ys (omega (arith, e)) (λ k d lt. h (suc k) d (omega (arith, lt))))
