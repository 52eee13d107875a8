-- A list that is made of another one, row by row, with one row put into both.
use Rattle.std.proofs.Common.{◌≡◌, List, [], ◌∷◌, ◌++◌, Bool, true, false, map, refl, sym, ap, ◌∙◌, inl, inr}
use Rattle.std.specs.Prelude.{filter, if◌then◌else◌}
use Rattle.std.specs.declared.cmp.Ordering.{Ordering}
use Rattle.std.specs.Ordering.{is_lt, is_gt}
use Rattle.sqlite_rules.specs.Lists.{Has}
use Rattle.cpi_rows.specs.Keyed.{with_row}

module _ {X Y : Type 0} (f : X → Y) where
  map_around : (xs ys : List X) (x : X) → map f (xs ++ x ∷ ys) ≡ map f xs ++ f x ∷ map f ys
  map_around [] ys x = refl
  map_around (y ∷ xs) ys x = ap (λ l. f y ∷ l) (map_around xs ys x)

  map_kept : (g : X → Y) (p : X → Bool) (q : Y → Bool) (xs : List X) → ((x : X) → Has xs x → g x ≡ f x)
      → ((x : X) → q (f x) ≡ p x) → map g (filter p xs) ≡ filter q (map f xs)
  map_kept g p q [] same tests = refl
  map_kept g p q (x ∷ xs) same tests =
      let more = map_kept g p q xs (λ y h. same y (inr h)) tests in
      at (p x) more ∙ ap (λ b. if b then f x ∷ filter q (map f xs) else filter q (map f xs)) (sym (tests x))
    where
      at : (b : Bool) → map g (filter p xs) ≡ filter q (map f xs)
          → map g (if b then x ∷ filter p xs else filter p xs) ≡
          (if b then f x ∷ filter q (map f xs) else filter q (map f xs))
      at true more = ap (λ y. y ∷ map g (filter p xs)) (same x (inl refl)) ∙ ap (λ l. f x ∷ l) more
      at false more = more

module _ {X Y K L : Type 0} (R : K → K → Ordering) (key : X → K) (Q : L → L → Ordering) (made : Y → L)
    (f g : X → Y) where
  -- g is f on what stands, and makes the row that is put; the rows that are made lie about it as those that stand do
  pub map_put : (x : X) (y : Y) (xs : List X) → g x ≡ y → ((z : X) → Q (made (f z)) (made y) ≡ R (key z) (key x))
      → ((z : X) → Has xs z → g z ≡ f z) → map g (with_row R key x xs) ≡ with_row Q made y (map f xs)
  map_put x y xs is orders same =
      let below = filter (λ r. is_lt (R (key r) (key x))) xs in
      let above = filter (λ r. is_gt (R (key r) (key x))) xs in
      let low = map_kept f g (λ r. is_lt (R (key r) (key x))) (λ r. is_lt (Q (made r) (made y))) xs same
      (λ z. ap is_lt (orders z)) in
      let high = map_kept f g (λ r. is_gt (R (key r) (key x))) (λ r. is_gt (Q (made r) (made y))) xs same
      (λ z. ap is_gt (orders z)) in
      map_around g below above x
      ∙ ap (λ l. l ++ g x ∷ map g above) low
      ∙ ap (λ l. filter (λ r. is_lt (Q (made r) (made y))) (map f xs) ++ g x ∷ l) high
      ∙ ap (λ z. filter (λ r. is_lt (Q (made r) (made y))) (map f xs)
      ++ z ∷ filter (λ r. is_gt (Q (made r) (made y))) (map f xs)) is
