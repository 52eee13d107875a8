-- What is found by a key has it, and what is found among rows that a map keeps in their keys.
use Rattle.std.proofs.Common.{◌≡◌, ℕ, Bool, true, false, List, [], ◌∷◌, map, Some, None, refl, ap, subst}
use Rattle.std.specs.Prelude.{option_map}
use Rattle.std.specs.declared.cmp.Ordering.{Ordering}
use Rattle.std.specs.declared.cmp.Ordering.TheVariants.{Less, Equal, Greater}
use Rattle.std.specs.Ordering.{nat_cmp, is_eq}
use Rattle.std.proofs.lemmas.Map.Lookups.{exact_unsigned}
use Rattle.cpi_rows.specs.Keyed.{row_at, row_by_number}

-- what is found has the key
pub row_key : {X K : Type 0} (cmp : K → K → Ordering) (key : X → K) (k : K) (x : X) (rows : List X) →
    row_at cmp key k rows ≡ Some x → cmp (key x) k ≡ Equal
row_key cmp key k x [] found = let no : None ≡ Some x = found in cc
row_key cmp key k x (r ∷ rows) found = cases (cmp (key r) k) refl (row_key cmp key k x rows)
  where
    cases : (s : Ordering) → cmp (key r) k ≡ s → (row_at cmp key k rows ≡ Some x → cmp (key x) k ≡ Equal) →
        cmp (key x) k ≡ Equal
    cases Less e rest = rest (rw (ap is_eq e) at found)
    cases Greater e rest = rest (rw (ap is_eq e) at found)
    cases Equal e rest =
        let here : Some r ≡ Some x = rw (ap is_eq e) at found in
        let is : r ≡ x = cc in
        subst (λ x. cmp (key x) k ≡ Equal) is e

pub at_key : {X : Type 0} (key : X → ℕ) (n : ℕ) (x : X) (rows : List X) → row_by_number key n rows ≡ Some x → key x ≡ n
at_key key n x rows found = exact_unsigned (key x) n (row_key nat_cmp key n x rows found)

pub at_map : {X Y : Type 0} (f : X → Y) (key : Y → ℕ) (n : ℕ) (rows : List X) →
    row_by_number key n (map f rows) ≡ option_map f (row_by_number (λ x. key (f x)) n rows)
at_map f key n [] = refl
at_map f key n (r ∷ rows) = cases (is_eq (nat_cmp (key (f r)) n)) refl (at_map f key n rows)
  where
    cases : (s : Bool) → is_eq (nat_cmp (key (f r)) n) ≡ s →
        row_by_number key n (map f rows) ≡ option_map f (row_by_number (λ x. key (f x)) n rows) →
        row_by_number key n (map f (r ∷ rows)) ≡ option_map f (row_by_number (λ x. key (f x)) n (r ∷ rows))
    cases true e rest = rw e refl
    cases false e rest = rw e rest
