-- Rows that a map keeps, each under its key.
use Rattle.std.specs.Prelude.{◌≡◌, List}
use Rattle.std.specs.declared.cmp.Ordering.{Ordering}
use Rattle.std.specs.declared.cmp.Ordering.TheVariants.{Equal}
use Rattle.std.specs.List.{AllByRecursion}

-- each row is under its own key
abbrev pub AreUnderKeys : {X K : Type 0} → (K → K → Ordering) → (X → K) → List (K × X) → Type 0
AreUnderKeys cmp key entries = AllByRecursion (λ e. cmp e.0 (key e.1) ≡ Equal) entries
