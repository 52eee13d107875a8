-- What tests that hold together say of each, and what a choice by a test made.
use Rattle.std.proofs.Common.{◌≡◌, ℕ, refl, Bool, true, false, ◌&&◌, cond, Some, None}

pub all_three : (a b c : Bool) → (a && b && c) ≡ true → (a ≡ true) × (b ≡ true) × (c ≡ true)
all_three true true true h = (refl, refl, refl)
all_three true true false h = absurd cc
all_three true false c h = absurd cc
all_three false b c h = absurd cc

-- a value that stands only where the test holds
pub chosen : (b : Bool) (x n : ℕ) → cond b (Some x) None ≡ Some n → (b ≡ true) × (n ≡ x)
chosen true x n h = (refl, cc)
chosen false x n h = absurd cc
