-- Tests of a number that show what they found.
use Rattle.std.proofs.Common.{ℕ, ◌<◌, ◌≤◌, ◌⊎◌, inl, inr, Option, Some, None, Bool, true, false, IsTrue}
use Rattle.std.specs.Int.{IsInRange}
use Rattle.std.proofs.lemmas.Bool.{cases_lt}

abbrev pub first : {A B : Type 0} → A ⊎ B → Option A
first (inl a) = Some a
first (inr b) = None

abbrev pub range : {low high n : ℕ} → (n < low) ⊎ (low ≤ n) → (high < n) ⊎ (n ≤ high) → Option (IsInRange low high n)
range (inr from) (inr to) = Some (from, to)
range (inr from) (inl past) = None
range (inl under) to = None

-- the number is below the end, and this shows it
abbrev pub below : (end n : ℕ) → Option (n < end)
below end n = first (cases_lt n end)

-- the number lies from low to high, and this shows it
abbrev pub within : (low high n : ℕ) → Option (IsInRange low high n)
within low high n = range (cases_lt n low) (cases_lt high n)

-- the test is passed, and this shows it
abbrev pub holds : (b : Bool) → Option (IsTrue b)
holds true = Some (λ _. true)
holds false = None
