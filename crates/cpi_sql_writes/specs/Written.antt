-- The state that a write of one change leaves.
use Rattle.std.specs.Prelude.{Result, OnErr, OnOk}
use Rattle.sqlite.specs.State.{State, Survives}
use Rattle.cpi_store.specs.Office.{Change, Office}
use Rattle.cpi_sql_rows.specs.Lists.{office_in}
use Rattle.cpi_sql_rows.specs.Shelf.{HasTables, IsCleanBook, IsKept}
use Rattle.cpi_sql_writes.specs.Rest.{LeavesOnly, MakesOnly}

-- If the office can take it, the change is made and nothing else, or a fault leaves the rows as they were. A crash leaves
-- what it left before, or the database of an office with the change and nothing else.
pub record Written {A E : Type 0} (change : Change) (fits : Office → Type 0) (old new : State) (result : Result A E)
    : Type 0 where
  pub clean : IsCleanBook new → IsCleanBook old
  pub done : IsCleanBook new → HasTables old → fits (office_in old.now.trees) → OnOk result (MakesOnly change old new)
  pub kept : IsCleanBook new → HasTables old → OnErr result (IsKept old new)
  pub crash : Survives old new (λ db. HasTables old → fits (office_in old.now.trees) →
      LeavesOnly change old.now.trees db)
