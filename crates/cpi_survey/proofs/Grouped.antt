-- A list in the order of a number is the rows of each number, one number after the other.
use Rattle.std.proofs.Common.{◌≡◌, ◌≢◌, ℕ, zero, suc, ◌+◌, ◌<◌, ◌≤◌, Bool, true, false, List, [], ◌∷◌, ◌++◌, refl, sym}
use Rattle.std.proofs.Common.{ap, ◌∙◌, arith, inl, inr}
use Rattle.std.specs.Prelude.{filter, not, ⊤, ◌==◌, ◌⊎◌}
use Rattle.std.specs.List.{AllByRecursion, flat_map, range_with_len}
use Rattle.std.specs.List.Sorted.{IsNonDecreasingBy}
use Rattle.std.proofs.lemmas.Bool.{eq-eqb, ne_eqb, cases_eq}
use Rattle.std.proofs.lemmas.List.Elements.{All-from_get_or, recursion_from_All}

module _ {X : Type 0} (n : X → ℕ) where
  abbrev is_at : ℕ → X → Bool
  is_at m x = n x == m

  abbrev is_off : ℕ → X → Bool
  is_off m x = not (n x == m)

  -- no number is above a later one
  abbrev Rises : List X → Type 0
  Rises [] = ⊤
  Rises (x ∷ xs) = AllByRecursion (λ y. n x ≤ n y) xs × Rises xs

  pub rises : (xs : List X) → IsNonDecreasingBy n xs → Rises xs
  rises [] h = tt
  rises (x ∷ xs) h = (
    recursion_from_All (λ y. n x ≤ n y) xs (All-from_get_or (λ y. n x ≤ n y) xs x
        (λ i lt. h 0 (suc i) x (omega arith) (omega arith))),
    rises xs (λ i j d le lt. h (suc i) (suc j) d (omega arith) (omega arith)),
  )

  above : (a b : ℕ) (xs : List X) → a ≤ b → AllByRecursion (λ y. b ≤ n y) xs → AllByRecursion (λ y. a ≤ n y) xs
  above a b [] le all = tt
  above a b (x ∷ xs) le all = (omega (arith, all.0), above a b xs le all.1)

  kept : (P : X → Type 0) (p : X → Bool) (xs : List X) → AllByRecursion P xs → AllByRecursion P (filter p xs)
  kept P p [] all = tt
  kept P p (x ∷ xs) all = cases (p x) refl (kept P p xs all.1)
    where
      cases : (s : Bool) → p x ≡ s → AllByRecursion P (filter p xs) → AllByRecursion P (filter p (x ∷ xs))
      cases true e rest = rw e (all.0, rest)
      cases false e rest = rw e rest

  rises_filter : (p : X → Bool) (xs : List X) → Rises xs → Rises (filter p xs)
  rises_filter p [] r = tt
  rises_filter p (x ∷ xs) r = cases (p x) refl (rises_filter p xs r.1)
    where
      cases : (s : Bool) → p x ≡ s → Rises (filter p xs) → Rises (filter p (x ∷ xs))
      cases true e rest = rw e (kept (λ y. n x ≤ n y) p xs r.0, rest)
      cases false e rest = rw e rest

  none_at : (a : ℕ) (xs : List X) → AllByRecursion (λ x. suc a ≤ n x) xs → filter (is_at a) xs ≡ []
  none_at a [] all = refl
  none_at a (x ∷ xs) all = rw (ne_eqb (n x) a (λ e. absurd (omega (arith, e, all.0)))) (none_at a xs all.1)

  all_off : (a : ℕ) (xs : List X) → AllByRecursion (λ x. suc a ≤ n x) xs → filter (is_off a) xs ≡ xs
  all_off a [] all = refl
  all_off a (x ∷ xs) all = rw (ne_eqb (n x) a (λ e. absurd (omega (arith, e, all.0))))
      (ap (λ ys. x ∷ ys) (all_off a xs all.1))

  -- the rows of the least number come first
  parted : (a : ℕ) (xs : List X) → Rises xs → AllByRecursion (λ x. a ≤ n x) xs → xs ≡ filter (is_at a) xs
      ++ filter (is_off a) xs
  parted a [] r low = refl
  parted a (x ∷ xs) r low = cases (cases_eq (n x) a) (parted a xs r.1 low.1)
    where
      cases : (n x ≡ a) ⊎ (n x ≡ a → ⊥) → xs ≡ filter (is_at a) xs ++ filter (is_off a) xs →
          x ∷ xs ≡ filter (is_at a) (x ∷ xs) ++ filter (is_off a) (x ∷ xs)
      cases (inl same) rest = rw (eq-eqb (n x) a same) (ap (λ ys. x ∷ ys) rest)
      cases (inr other) rest =
          let higher = above (suc a) (n x) xs (omega (arith, low.0, other)) r.0 in
          rw (ne_eqb (n x) a other, none_at a xs higher, all_off a xs higher) refl

  off_at : (a m : ℕ) (xs : List X) → a ≢ m → filter (is_at m) (filter (is_off a) xs) ≡ filter (is_at m) xs
  off_at a m [] apart = refl
  off_at a m (x ∷ xs) apart = cases (cases_eq (n x) a) (off_at a m xs apart)
    where
      front : (s : Bool) → (n x == m) ≡ s → filter (is_at m) (filter (is_off a) xs) ≡ filter (is_at m) xs →
          filter (is_at m) (x ∷ filter (is_off a) xs) ≡ filter (is_at m) (x ∷ xs)
      front true e rest = rw e (ap (λ ys. x ∷ ys) rest)
      front false e rest = rw e rest

      cases : (n x ≡ a) ⊎ (n x ≡ a → ⊥) → filter (is_at m) (filter (is_off a) xs) ≡ filter (is_at m) xs →
          filter (is_at m) (filter (is_off a) (x ∷ xs)) ≡ filter (is_at m) (x ∷ xs)
      cases (inl same) rest = rw (eq-eqb (n x) a same, ne_eqb (n x) m (λ e. apart (sym same ∙ e))) rest
      cases (inr other) rest = rw (ne_eqb (n x) a other) (front (n x == m) refl rest)

  abbrev IsIn : ℕ → ℕ → X → Type 0
  IsIn a len x = (a ≤ n x) × (n x < a + len)

  low : (a len : ℕ) (xs : List X) → AllByRecursion (IsIn a len) xs → AllByRecursion (λ x. a ≤ n x) xs
  low a len [] all = tt
  low a len (x ∷ xs) all = (all.0.0, low a len xs all.1)

  rest_in : (a len : ℕ) (xs : List X) → AllByRecursion (IsIn a (suc len)) xs →
      AllByRecursion (IsIn (a + 1) len) (filter (is_off a) xs)
  rest_in a len [] all = tt
  rest_in a len (x ∷ xs) all = cases (cases_eq (n x) a) (rest_in a len xs all.1)
    where
      cases : (n x ≡ a) ⊎ (n x ≡ a → ⊥) → AllByRecursion (IsIn (a + 1) len) (filter (is_off a) xs) →
          AllByRecursion (IsIn (a + 1) len) (filter (is_off a) (x ∷ xs))
      cases (inl same) rest = rw (eq-eqb (n x) a same) rest
      cases (inr other) rest = rw (ne_eqb (n x) a other) ((omega (arith, all.0.0, other), omega (arith, all.0.1)), rest)

  -- what rises through a range is, for each number of the range, the rows of that number
  pub grouped : (f : ℕ → List X) (len a : ℕ) (xs : List X) → Rises xs → AllByRecursion (IsIn a len) xs →
      ((m : ℕ) → a ≤ m → m < a + len → filter (is_at m) xs ≡ f m) → xs ≡ flat_map f (range_with_len a len)
  grouped f zero a [] r all same = refl
  grouped f zero a (x ∷ xs) r all same = absurd (omega (arith, all.0.0, all.0.1))
  grouped f (suc len) a xs r all same =
      let rest : List X = filter (is_off a) xs in
      parted a xs r (low a (suc len) xs all)
      ∙ ap (λ ys. ys ++ rest) (same a (omega arith) (omega arith))
      ∙ ap (λ ys. f a ++ ys) (grouped f len (a + 1) rest (rises_filter (is_off a) xs r) (rest_in a len xs all)
      (λ m ge lt. off_at a m xs (λ e. absurd (omega arith)) ∙ same m (omega arith) (omega arith)))
