-- Answers of a book over a database, about its office and its tables.
use Rattle.std.specs.Prelude.{◌≡◌, ◌+◌, ℕ, true, Result, Ok, IfOk, OnErr, OnOk}
use Rattle.std.specs.Result.{IsErr}
use Rattle.sqlite.specs.Held.{state}
use Rattle.sqlite.specs.State.{State, Survives}
use Rattle.sqlite.specs.Tree.{Trees}
use Rattle.sqlite_trees.specs.declared.store.Store.{Ghosts}
use Rattle.cpi_release.specs.State.{Reads}
use Rattle.cpi_store.specs.Calls.{Writes}
use Rattle.cpi_store.specs.Office.{Change, Office, office_with}
use Rattle.cpi_sql_reads.specs.Headers.{is_header_there}
use Rattle.cpi_sql_rows.specs.Lists.{header_in, headers_in, level_in_row, release_number}
use Rattle.cpi_sql_rows.specs.Shelf.{AllStand, AllStandOf, IsCleanBook, IsKept, Shelf, book_state}
use Rattle.cpi_sql_rows.specs.Tables.{table_of_levels_2, table_of_releases_2}
use Rattle.cpi_sql_writes.specs.Rest.{LeavesOnly, MakesOnly}

-- the answer is what was found, or it is a fault, and one more failure is counted
pub record IsCounted {T E F : Type 0} (found : Result T E) (result : Result T F) (before after : ℕ) : Type 0 where
  pub answered : IfOk found (λ x. result ≡ Ok x)
  pub same : OnOk found (after ≡ before)
  pub failed : OnErr found (IsErr result)
  pub more : OnErr found (after ≡ before + 1)

-- the types take each header of a release
abbrev pub HeadersTaken : Trees → Type 0
HeadersTaken trees = AllStand header_in (trees table_of_releases_2.tree)

-- the types take each header of a release, and each row of the table, if it is published by the moment
pub record IsTableTaken (month revision until : ℕ) (trees : Trees) : Type 0 where
  pub headers : HeadersTaken trees
  pub rows : is_header_there month revision until (headers_in (trees table_of_releases_2.tree)) ≡ true
      → AllStandOf level_in_row (release_number month revision) (trees table_of_levels_2.tree)

-- If the book is clean, the change is made in the tables and nothing else, or a fault leaves the rows as they were. A
-- crash leaves what it left before, or the tables with the change and nothing else.
pub record WritesTables {T F : Type 0} (change : Change) (old new : State) (result : Result T F) : Type 0 where
  pub done : IsCleanBook new → OnOk result (MakesOnly change old new)
  pub kept : IsCleanBook new → OnErr result (IsKept old new)
  pub crash : Survives old new (λ db. IsCleanBook old → LeavesOnly change old.now.trees db)

-- if the book is clean, this holds of its office
abbrev pub Owes : {S : Type 0} → Ghosts S → Shelf S → (Office → Type 0) → Type 0
Owes store book IsSo = IsCleanBook (state store book.held) → IsSo (book_state store book).held

module _ {S : Type 0} (store : Ghosts S) (old new : Shelf S) where
  -- if the book is clean, the rows are as they were
  abbrev pub KeepsRows : Type 0
  KeepsRows = IsCleanBook (state store new.held) → (state store new.held).now ≡ (state store old.held).now

  -- a read shows something of the office that the book held
  abbrev pub ReadsOffice : {T F : Type 0} → Result T F → (Office → T → Type 0) → Type 0
  ReadsOffice result Shown =
      Reads (book_state store old) (book_state store new) result (Shown (book_state store old).held)

  -- if the book is clean, an answer rests on tables for which this holds
  abbrev pub RestsOn : {T F : Type 0} → Result T F → (Trees → Type 0) → Type 0
  RestsOn result AreSo = IsCleanBook (state store new.held) → OnOk result (AreSo (state store old.held).now.trees)

  -- a look-up shows what the office that the book held gives
  abbrev pub Finds : {T F : Type 0} → Result T F → (Office → T) → Type 0
  Finds result gives = ReadsOffice result (λ office found. found ≡ gives office)

  -- a write makes the change of the office
  abbrev pub WritesOffice : {T F : Type 0} → Result T F → Change → Type 0
  WritesOffice result change =
      Writes (book_state store old) (book_state store new) result (office_with change (book_state store old).held)

  -- and in the tables it does nothing else
  abbrev pub WritesRows : {T F : Type 0} → Result T F → Change → Type 0
  WritesRows result change = WritesTables change (state store old.held) (state store new.held) result
