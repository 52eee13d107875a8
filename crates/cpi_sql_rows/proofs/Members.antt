-- Members of lists that are read, and of lists in order.
use Rattle.std.proofs.Common.{◌≡◌, inl, inr, Bool, true, false, List, [], ◌∷◌, Some, None, Option}
use Rattle.std.proofs.Common.{refl, sym, ap, subst, ◌∙◌}
use Rattle.std.specs.Prelude.{if◌then◌else◌}
use Rattle.std.specs.List.{filter_map, cons_option}
use Rattle.std.specs.declared.cmp.Ordering.{Ordering}
use Rattle.std.specs.Ordering.{is_eq}
use Rattle.std.specs.Cmp.{IsTotalOrder, tied_itself}
use Rattle.std.proofs.lemmas.Map.Keys.{sorted_tail}
use Rattle.sqlite_rules.specs.Lists.{Has}
use Rattle.cpi_rows.specs.Keyed.{IsInOrder, row_at}
use Rattle.cpi_sql_rows.proofs.Listed.{head_in}
use Rattle.cpi_sql_rows.proofs.Lists.{some_is}

module _ {X Y : Type 0} (g : X → Option Y) where
  pub given_has : (xs : List X) (x : X) (y : Y) → Has xs x → g x ≡ Some y → Has (filter_map g xs) y
  given_has [] x y h e = absurd h
  given_has (z ∷ xs) x y (inl same) e =
      let here : g z ≡ Some y = ap g (sym same) ∙ e in
      subst (λ o. Has (cons_option o (filter_map g xs)) y) (sym here) (inl refl)
  given_has (z ∷ xs) x y (inr h) e = at (g z) (given_has xs x y h e)
    where
      at : (o : Option Y) → Has (filter_map g xs) y → Has (cons_option o (filter_map g xs)) y
      at None k = k
      at (Some w) k = inr k

  pub has_given : (xs : List X) (y : Y) → Has (filter_map g xs) y → (x : X) × Has xs x × (g x ≡ Some y)
  has_given [] y h = absurd h
  has_given (x ∷ xs) y h = at (g x) refl h (has_given xs y)
    where
      at : (o : Option Y) → g x ≡ o → Has (cons_option o (filter_map g xs)) y
          → (Has (filter_map g xs) y → (z : X) × Has xs z × (g z ≡ Some y)) → (z : X) × Has (x ∷ xs) z × (g z ≡ Some y)
      at None e k rest = let it = rest k in (it.0, inr it.1, it.2)
      at (Some w) e (inl is) rest = (x, inl refl, e ∙ ap Some (sym is))
      at (Some w) e (inr k) rest = let it = rest k in (it.0, inr it.1, it.2)

module _ {X K : Type 0} {R : K → K → Ordering} (o : IsTotalOrder R) (key : X → K) where
  -- a row in order is found by its key
  pub row_of : (xs : List X) (x : X) → IsInOrder R key xs → Has xs x → row_at R key (key x) xs ≡ Some x
  row_of [] x sorted h = absurd h
  row_of (y ∷ ys) x sorted (inl is) =
      let tie : is_eq (R (key y) (key x)) ≡ true = ap (λ z. is_eq (R (key y) (key z))) is
      ∙ ap is_eq (tied_itself o (key y)) in
      ap (λ b. if b then Some y else row_at R key (key x) ys) tie ∙ ap Some (sym is)
  row_of (y ∷ ys) x sorted (inr h) =
      let less : is_eq (R (key y) (key x)) ≡ false = ap is_eq (head_in o key y ys x sorted h) in
      ap (λ b. if b then Some y else row_at R key (key x) ys) less
      ∙ row_of ys x (sorted_tail (λ a b. R (key a) (key b)) y ys sorted) h

pub has_row : {X K : Type 0} (R : K → K → Ordering) (key : X → K) (k : K) (xs : List X) (x : X)
    → row_at R key k xs ≡ Some x → Has xs x
has_row R key k [] x e = cc
has_row R key k (y ∷ ys) x e = at (is_eq (R (key y) k)) e (has_row R key k ys x)
  where
    at : (b : Bool) → (if b then Some y else row_at R key k ys) ≡ Some x → (row_at R key k ys ≡ Some x → Has ys x)
        → Has (y ∷ ys) x
    at true f rest = inl (sym (some_is f))
    at false f rest = inr (rest f)
