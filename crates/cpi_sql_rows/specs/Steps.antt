-- The steps within a transaction, on the rows of one table.
use Rattle.std.specs.Prelude.{◌≡◌, ℕ, false, List, [], ◌∷◌, IsTrue}
use Rattle.sqlite.specs.Order.{Row}
use Rattle.sqlite.specs.State.{State}
use Rattle.cpi_sql_rows.specs.Tables.{office_schema}
pub use Rattle.cpi_sql_rows.specs.Frames.{SameBut, is_beside}
use Rattle.cpi_sql_rows.specs.Making.{HasAllTables}
use Rattle.cpi_sql_rows.specs.Shelf.{HasRowids}

-- the state, were its transaction at an end
abbrev pub outside : State → State
outside s = record s { in_transaction = false }

-- a step on the rows of one table
pub record IsRowStep (tree : ℕ) (Rows : List Row → List Row → Type 0) (old new : State) : Type 0 where
  pub inside : IsTrue new.in_transaction
  pub schema : new.now.schema ≡ office_schema
  pub all : HasAllTables old.now.trees → HasAllTables new.now.trees
  pub rows : Rows (old.now.trees tree) (new.now.trees tree)
  pub rowids : HasRowids (new.now.trees tree)
  pub others : SameBut (tree ∷ []) old.now.trees new.now.trees
