-- Rows whose keys rise are in order, and rows whose keys falter are not.
use Rattle.std.proofs.Common.{◌≡◌, ℕ, ◌+◌, ◌<◌, false, List, [], ◌∷◌, length, get_or, sym, ap, ◌∙◌, arith}
use Rattle.std.specs.declared.cmp.Ordering.{Ordering}
use Rattle.std.specs.declared.cmp.Ordering.TheVariants.{Less}
use Rattle.std.specs.Ordering.{is_lt}
use Rattle.std.specs.Cmp.{IsTotalOrder}
use Rattle.std.specs.List.Sorted.{IsStrictlySortedBy}
use Rattle.std.proofs.lemmas.List.Elements.{pair_read}
use Rattle.std.proofs.lemmas.Map.Keys.{sorted_from_all_adjacent, Less-from_sorted}
use Rattle.cpi_rows.specs.Keyed.{IsInOrder, Falters}
use Rattle.cpi_rows.proofs.Truth.{no_true_false}

pub by_key_total : {X K : Type 0} {R : K → K → Ordering} → IsTotalOrder R → (key : X → K) →
    IsTotalOrder (λ a b. R (key a) (key b))
by_key_total o key = record {
  antisymm = λ x y. o.antisymm (key x) (key y);
  trans =
      λ x y z. o.trans (key x) (key y) (key z);
  congr = λ x y z. o.congr (key x) (key y) (key z);
}

pub Falters_at : {X K : Type 0} (cmp : K → K → Ordering) (key : X → K) (xs : List X) (i j : ℕ) (x y : X) → j + 1 ≡ i →
    i < length xs → x ≡ get_or xs j x → y ≡ get_or xs i y → is_lt (cmp (key x) (key y)) ≡ false → Falters cmp key xs
Falters_at cmp key xs i j x y e h at_j at_i f = (
  j,
  omega arith,
  pair_read xs (λ a b. is_lt (cmp (key a) (key b)) ≡ false) j (j + 1) x y (omega arith)
      (omega arith) at_j (rw e at_i) f,
)

pub rises_whole : {X K : Type 0} {cmp : K → K → Ordering} → IsTotalOrder cmp → (key : X → K) (xs : List X) →
    ((k : ℕ) (d : X) → k + 1 < length xs → cmp (key (get_or xs k d)) (key (get_or xs (k + 1) d)) ≡ Less) →
    IsInOrder cmp key xs
unfolding IsStrictlySortedBy
rises_whole o key [] h = tt
rises_whole o key (x ∷ xs) h = sorted_from_all_adjacent (by_key_total o key) (x ∷ xs) x (λ k l. h k x l)

-- rows in order don't falter
pub never_falters : {X K : Type 0} (cmp : K → K → Ordering) (key : X → K) (xs : List X) → IsInOrder cmp key xs →
    Falters cmp key xs → ⊥
never_falters cmp key [] order f = absurd (omega (arith, f.1))
never_falters cmp key (x ∷ xs) order f =
    let less = Less-from_sorted (λ a b. cmp (key a) (key b)) (x ∷ xs) f.0 (f.0 + 1) x order (omega arith) f.1 in
    no_true_false (ap is_lt (sym less) ∙ f.2 x)
