-- Cached lists: one that is taken out leaves the others.
use Rattle.std.proofs.Common.{ℕ, zero, suc, List, [], ◌∷◌}
use Rattle.std.specs.List.{AllByRecursion, remove}

-- what holds of all holds without one of them
pub all_less : {X : Type 0} (P : X → Type 0) (xs : List X) (i : ℕ) → AllByRecursion P xs
    → AllByRecursion P (remove xs i)
all_less P [] zero all = tt
all_less P [] (suc i) all = tt
all_less P (x ∷ xs) zero all = all.1
all_less P (x ∷ xs) (suc i) all = (all.0, all_less P xs i all.1)
