-- The state that a statement or a call within a transaction leaves, and its effect on the rows of one table.
use Rattle.std.specs.Prelude.{◌≡◌, ◌⊎◌, ◌↔◌, ℕ, Bool, false, List, Option, Some, IsTrue, Result, Ok, OnOk, OnErr}
use Rattle.sqlite.specs.Order.{Row}
use Rattle.sqlite.specs.Tree.{Trees}
use Rattle.sqlite.specs.State.{State, CommitsBy, Executes, HasCleanDisk, KeepsCommit, Survives}
use Rattle.sqlite_rules.specs.Lists.{Has}
use Rattle.cpi_sql_rows.specs.Tables.{office_schema}
use Rattle.cpi_store.specs.Office.{Change}
use Rattle.cpi_sql_rows.specs.Shelf.{HasRowids, HasTables, IsCleanBook, IsKept}
use Rattle.cpi_sql_rows.specs.Steps.{IsRowStep, outside}
use Rattle.cpi_sql_writes.specs.Rest.{MakesOnly}

-- the statement was run
abbrev pub RanStatement : List ℕ → Row → State → State → Type 0
RanStatement text params old new = (count : ℕ) × Executes text params old new (Ok count)

-- the state that a statement leaves which is a transaction of its own
pub record RunsAlone {A E : Type 0} (text : List ℕ) (params : Row) (old new : State) (result : Result A E)
    : Type 0 where
  pub clean : IsCleanBook new → IsCleanBook old
  pub stays_open : HasCleanDisk new → old.in_transaction ≡ false → OnOk result (IsTrue new.is_open)
  pub ran : HasCleanDisk new → OnOk result (RanStatement text params old new)
  pub kept : IsCleanBook new → old.in_transaction ≡ false → OnErr result (IsKept old new)
  pub crash : Survives old new (CommitsBy text params old)

-- the step is made if the disk is clean, and nothing of it is committed
pub record Inside (old new : State) (Step : Type 0) : Type 0 where
  pub step : HasCleanDisk new → IsTrue old.in_transaction → Step
  pub kept : HasCleanDisk new → KeepsCommit old new
  pub survives : Survives old new (λ _. ⊥)

-- the same of a call that may fail: the step is made if it doesn't
abbrev pub Within : {A E : Type 0} → State → State → Result A E → (State → State → Type 0) → Type 0
Within old new result Step = Inside old new (OnOk result (Step old new))

-- the tables are the office's, and the rows of this one have rowids
pub record IsReady (tree : ℕ) (s : State) : Type 0 where
  pub schema : s.now.schema ≡ office_schema
  pub rowids : HasRowids (s.now.trees tree)

-- a step on the rows of one table
abbrev pub Changes : ℕ → (List Row → List Row → Type 0) → State → State → Type 0
Changes tree Rows old new = IsReady tree old → IsRowStep tree Rows old new

-- the steps together are the change of the office, were the transaction at an end
abbrev pub ChangesOffice : Change → State → State → Type 0
ChangesOffice change old new = HasTables (outside old) → MakesOnly change (outside old) (outside new)

-- they leave tables that this holds for
abbrev pub LeavesTables : (Trees → Type 0) → State → State → Type 0
LeavesTables Left old new = HasTables (outside old) → Left new.now.trees

-- the rows that are left aren't the holder's
abbrev pub Drops : (Row → Bool) → List Row → List Row → Type 0
Drops is_of rows left = (r : Row) → Has left r ↔ (Has rows r × (is_of r ≡ false))

-- `entry` is the value that a row stands for, with the number of its holder
module _ {X : Type 0} (entry : Row → Option (ℕ × X)) where
  -- the rows that are there, and those of the holder's list
  pub record Adds (number : ℕ) (xs : List X) (mid new : List Row) : Type 0 where
    pub others : (r : Row) → Has new r → Has mid r ⊎ ((x : X) × Has xs x × (entry r ≡ Some (number, x)))
    pub kept : (r : Row) → Has mid r → Has new r
    pub there : (x : X) → Has xs x → (r : Row) × Has new r × (entry r ≡ Some (number, x))

  -- the same, for each number that the holder goes by
  abbrev pub AddsTo : (ℕ → Type 0) → List X → List Row → List Row → Type 0
  AddsTo GoesBy xs mid new = (number : ℕ) → GoesBy number → Adds number xs mid new

  -- the rows of the holder are dropped, and those of the list added
  abbrev pub Replaces : (Row → Bool) → (ℕ → Type 0) → List X → List Row → List Row → Type 0
  Replaces is_of GoesBy xs old new = (mid : List Row) × Drops is_of old mid × AddsTo GoesBy xs mid new
