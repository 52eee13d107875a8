-- Facts of rows that follow from a look-up.
use Rattle.std.proofs.Common.{◌≡◌, Bool, true, false, cond, List, [], ◌∷◌, Option, Some, None, refl, sym, ap, ◌∙◌, ◌&&◌}
use Rattle.std.proofs.Common.{not}
use Rattle.std.specs.declared.cmp.Ordering.{Ordering}
use Rattle.std.specs.Ordering.{is_eq}
use Rattle.std.specs.List.{list_any, list_all}
use Rattle.std.specs.Prelude.{is_none, is_some}
use Rattle.cpi_rows.specs.Keyed.{row_at}

pub none_not_some : {X : Type 0} (o : Option X) → is_none o ≡ not (is_some o)
none_not_some None = refl
none_not_some (Some x) = refl

pub and_when : (a b c : Bool) → a ≡ true → b ≡ c → b ≡ (a && c)
and_when true b c h e = e
and_when false b c h e = cc

module _ {X K : Type 0} (cmp : K → K → Ordering) (key : X → K) (k : K) where
  by_test : (x : X) (xs : List X) (b : Bool) → is_eq (cmp (key x) k) ≡ b →
      is_some (row_at cmp key k xs) ≡ list_any (λ r. is_eq (cmp (key r) k)) xs →
      is_some (row_at cmp key k (x ∷ xs)) ≡ list_any (λ r. is_eq (cmp (key r) k)) (x ∷ xs)
  by_test x xs true e h = rw e refl
  by_test x xs false e h = rw e h

  -- a row is found if and only if some row has the key
  pub found : (xs : List X) → is_some (row_at cmp key k xs) ≡ list_any (λ r. is_eq (cmp (key r) k)) xs
  found [] = refl
  found (x ∷ xs) = by_test x xs (is_eq (cmp (key x) k)) refl (found xs)

  -- the row that is found has the key, and passes what all rows pass
  pub found_has : (p : X → Bool) (xs : List X) (x : X) → row_at cmp key k xs ≡ Some x → list_all p xs ≡ true →
      (is_eq (cmp (key x) k) ≡ true) × (p x ≡ true)
  found_has p [] x e a = cc
  found_has p (y ∷ ys) x e a = step (is_eq (cmp (key y) k)) (p y) refl refl (λ t. found_has p ys x t) e a
    where
      step : (b c : Bool) → is_eq (cmp (key y) k) ≡ b → p y ≡ c →
          (row_at cmp key k ys ≡ Some x → list_all p ys ≡ true → (is_eq (cmp (key x) k) ≡ true) × (p x ≡ true)) →
          cond b (Some y) (row_at cmp key k ys) ≡ Some x → (c && list_all p ys) ≡ true →
          (is_eq (cmp (key x) k) ≡ true) × (p x ≡ true)
      step true true eb ec h s a = let same : y ≡ x = cc in
          (ap (λ r. is_eq (cmp (key r) k)) (sym same) ∙ eb, ap p (sym same) ∙ ec)
      step false true eb ec h s a = h s a
      step b false eb ec h s a = cc
