-- Statements about the rows as they were before a look, if the disk returned what was written.
use Rattle.std.specs.Prelude.{◌≡◌, List, Result, IfOk}
use Rattle.sqlite.specs.Held.{Held, state}
use Rattle.sqlite.specs.Store.{Ghosts}
use Rattle.sqlite.specs.Tree.{Trees}
use Rattle.cpi_sql_rows.specs.Lists.{headers_in}
use Rattle.cpi_sql_rows.specs.Shelf.{HasTables, IsCleanBook}
use Rattle.cpi_sql_rows.specs.Tables.{table_of_releases_2}
use Rattle.cpi_sql_rows.specs.declared.release_rows.Header.{Header}

-- a fact about these rows
abbrev pub Knows : {S : Type 0} → Ghosts S → Held S → Held S → (Trees → Type 0) → Type 0
Knows store old new Told =
    IsCleanBook (state store new) → HasTables (state store old) → Told (state store old).now.trees

-- the same of an answer and these rows
abbrev pub Tells : {S A E : Type 0} → Ghosts S → Held S → Held S → Result A E → (Trees → A → Type 0) → Type 0
Tells store old new result Told = Knows store old new (λ trees. IfOk result (Told trees))

-- a fact about these rows, if the headers are those of all releases
abbrev pub KnowsBy : {S : Type 0} → List Header → Ghosts S → Held S → Held S → (Trees → Type 0) → Type 0
KnowsBy headers store old new Told =
    Knows store old new (λ trees. headers ≡ headers_in (trees table_of_releases_2.tree) → Told trees)

-- the same of an answer and these rows, if the headers are those of all releases
abbrev pub TellsBy : {S A E : Type 0} → List Header → Ghosts S → Held S → Held S → Result A E
    → (Trees → A → Type 0) → Type 0
TellsBy headers store old new result Told = KnowsBy headers store old new (λ trees. IfOk result (Told trees))
