-- The latest row of a month is the first one from the end.
use Rattle.std.proofs.Common.{◌≡◌, ◌&&◌, ◌==◌, ℕ, Bool, true, false, List, [], ◌∷◌, Option, Some, None, reverse, refl}
use Rattle.std.proofs.Common.{ap, ◌∙◌}
use Rattle.std.specs.List.{find}
use Rattle.std.specs.Option.{option_or}
use Rattle.std.specs.Prelude.{filter, if◌then◌else◌}
use Rattle.std.proofs.lemmas.List.{reverse-append}
use Rattle.std.proofs.lemmas.List.Folds.{find-append}
use Rattle.cpi_release.specs.Latest.{latest_row}

module _ {X : Type 0} (month_of : X → ℕ) (month : ℕ) where
  -- the row before the others is found last
  found_behind : (test : X → Bool) (x : X) (xs : List X)
      → find test (reverse (x ∷ xs)) ≡ option_or (find test (reverse xs)) (if test x then Some x else None)
  found_behind test x xs =
      ap (find test) (reverse-append (x ∷ []) xs) ∙ find-append test (reverse xs) (x ∷ [])

  pub latest_last : (xs : List X) → find (λ x. month_of x == month) (reverse xs) ≡ latest_row month_of month xs
  latest_last [] = refl
  latest_last (x ∷ xs) = found_behind (λ y. month_of y == month) x xs
      ∙ ap (λ o. option_or o (if month_of x == month then Some x else None)) (latest_last xs)

  -- the same among those that pass a test
  pub latest_passing : (test : X → Bool) (xs : List X)
      → find (λ x. test x && (month_of x == month)) (reverse xs) ≡ latest_row month_of month (filter test xs)
  latest_passing test [] = refl
  latest_passing test (x ∷ xs) =
      found_behind (λ y. test y && (month_of y == month)) x xs
      ∙ ap (λ o. option_or o (if test x && (month_of x == month) then Some x else None)) (latest_passing test xs)
      ∙ elim (test x) as (λ b. option_or (latest_row month_of month (filter test xs))
      (if b && (month_of x == month) then Some x else None)
      ≡ latest_row month_of month (if b then x ∷ filter test xs else filter test xs))
      [ true ↦ refl | false ↦ or_none (latest_row month_of month (filter test xs)) ]
    where
      or_none : (o : Option X) → option_or o None ≡ o
      or_none None = refl
      or_none (Some y) = refl
