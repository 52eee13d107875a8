-- Rows put one after the other, in the order of their keys.
use Rattle.std.proofs.Common.{◌≡◌, List, [], ◌∷◌, ◌++◌, sym, subst}
use Rattle.std.specs.declared.cmp.Ordering.{Ordering}
use Rattle.std.specs.declared.cmp.Ordering.TheVariants.{Less}
use Rattle.std.specs.Cmp.{IsTotalOrder}
use Rattle.std.specs.List.{AllByRecursion}
use Rattle.std.proofs.lemmas.Map.Keys.{sorted_head, sorted_tail}
use Rattle.cpi_rows.specs.Keyed.{IsInOrder, with_row}
use Rattle.cpi_rows.proofs.Puts.{put_last}

holds_at : {X : Type 0} (P : X → Type 0) (x : X) (xs ys : List X) → AllByRecursion P (xs ++ x ∷ ys) → P x
holds_at P x [] ys all = all.0
holds_at P x (r ∷ xs) ys all = holds_at P x xs ys all.1

module _ {X K : Type 0} {R : K → K → Ordering} (o : IsTotalOrder R) (key : X → K) where
  before : (x : X) (xs ys : List X) → IsInOrder R key (xs ++ x ∷ ys) → AllByRecursion (λ r. R (key r) (key x) ≡ Less) xs
  before x [] ys sorted = tt
  before x (r ∷ xs) ys sorted = (
    holds_at (λ y. R (key r) (key y) ≡ Less) x xs ys (sorted_head (λ a b. R (key a) (key b)) r (xs ++ x ∷ ys) sorted),
    before x xs ys (sorted_tail (λ a b. R (key a) (key b)) r (xs ++ x ∷ ys) sorted),
  )

  -- the next of rows in order comes after those before it
  pub put_next : (x : X) (xs ys rows : List X) → xs ++ x ∷ ys ≡ rows → IsInOrder R key rows → with_row R key x xs ≡ xs
      ++ x ∷ []
  put_next x xs ys rows is sorted = put_last o key x xs (before x xs ys (subst (IsInOrder R key) (sym is) sorted))
