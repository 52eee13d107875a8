-- The number of the schema, which is the one row of `version`.
use Rattle.std.specs.Prelude.{◌≡◌, ℕ, pos, List, [], ◌∷◌, codes}
use Rattle.sqlite.specs.declared.types.Value.TheVariants.{Int}
use Rattle.sqlite.specs.Order.{Row, column}
use Rattle.sqlite.specs.Held.{Held, state}
use Rattle.sqlite.specs.State.{Shown}
use Rattle.sqlite_trees.specs.declared.store.Store.{Ghosts}

-- one row, which is that number
abbrev pub IsVersion : ℕ → List Row → Type 0
IsVersion n rows = (row : Row) × (rows ≡ row ∷ []) × (column row 0 ≡ Int (pos n))

-- reads all rows of `version`
abbrev pub version_text : List ℕ
version_text = codes "SELECT number FROM version"

-- Under whatever schema, the number could be read within a transaction, and wasn't one row that is 1 or 2.
abbrev pub ShowsOther : {S : Type 0} → Ghosts S → Held S → Type 0
ShowsOther {S} g held =
    (begun looked : Held S) × ((state g begun).now ≡ (state g held).now) × (rows : List Row)
    × Shown version_text [] (state g begun) (state g looked) rows × (IsVersion 1 rows → ⊥) × (IsVersion 2 rows → ⊥)
