-- The reads and the tests of the tables that an open finds.
use Rattle.std.specs.Prelude.{◌≡◌, ◌⊎◌, ℕ, false, List, [], ◌∷◌, Option, Some, None}
use Rattle.sqlite.specs.declared.types.Value.{Value}
use Rattle.sqlite.specs.declared.types.Value.TheVariants.{Null, Int, Real, Text, Blob}
use Rattle.sqlite.specs.Listing.{understood, reads_listing}
use Rattle.sqlite.specs.Order.{Row, column}
use Rattle.sqlite.specs.Schema.{Schema}
use Rattle.sqlite.specs.Tree.{Trees}
use Rattle.sqlite.proofs.Callers.{IsPlain, command_of}
use Rattle.cpi_sql_rows.specs.declared.plan_rows.PlanRow.{PlanRow}
use Rattle.cpi_sql_rows.specs.declared.rowids.Rowid.{Rowid}
use Rattle.cpi_sql_rows.specs.Asked.{AsksFor}
use Rattle.cpi_sql_rows.specs.Tables.{table_of_assignments, table_of_assignments_2, table_of_calendar, table_of_carried}
use Rattle.cpi_sql_rows.specs.Tables.{table_of_carried_2, table_of_collectors}
use Rattle.cpi_sql_rows.specs.Tables.{first_schema, table_of_frozen, table_of_frozen_2, table_of_items, table_of_levels}
use Rattle.cpi_sql_rows.specs.Tables.{table_of_levels_2, table_of_nodes}
use Rattle.cpi_sql_rows.specs.Tables.{office_schema, table_of_outlets, table_of_plan_items, table_of_plan_refs}
use Rattle.cpi_sql_rows.specs.Tables.{table_of_quotes, table_of_quotes_2, table_of_releases}
use Rattle.cpi_sql_rows.specs.Tables.{table_of_releases_2, table_of_version}
use Rattle.cpi_sql_rows.specs.Texts.{select}
use Rattle.sqlite.specs.State.{State, Survives}
use Rattle.cpi_sql_rows.specs.Making.{no_schema, HasAllTables, HoldsNothing, IsOfficeDatabase}
use Rattle.cpi_sql_rows.specs.Numbered.{IsVersion}
use Rattle.cpi_sql_rows.specs.Lists.{and_then, office_in}
use Rattle.cpi_sql_rows.specs.Copies.{HasCopies}
use Rattle.cpi_sql_rows.specs.FirstSchema.{first_office_in}
use Rattle.cpi_sql_rows.specs.Shelf.{HasRowids, IsCleanBook, IsKept}
pub use Rattle.cpi_sql_rows.specs.WholeRows.{AreWhole, AreOfYears, HavePlanYears}
use Rattle.cpi_sql_rows.specs.WholeRows.{year_in}

-- a rowid, and not NULL
abbrev pub rowid_from : Value → Option Rowid
rowid_from (Int n) = Some (record { number = n })
rowid_from Null = None
rowid_from (Real x) = None
rowid_from (Text t) = None
rowid_from (Blob b) = None

-- one of the schemas of the office
abbrev pub IsOfOffice : Schema → Type 0
IsOfOffice schema = (schema ≡ first_schema) ⊎ (schema ≡ office_schema)

-- under the schema, the text asks for the rowids of the rows of that tree
pub record AsksRowids (schema : Schema) (text : List ℕ) (tree : ℕ) : Type 0 where
  pub names : List (List ℕ)
  pub command : command_of (understood schema text) ≡ select tree [] (0 ∷ []) (0 ∷ []) names
  pub listing : reads_listing schema text ≡ false
  pub plain : IsPlain (understood schema text)

-- ---- rows of plans

-- the rowid and the year of a row of a plan, as an answer shows them
abbrev pub plan_row_from : Row → Option PlanRow
plan_row_from x = and_then (rowid_from (column x 0))
    (λ i. and_then (year_in 1 x) (λ y. Some (record { number = i.number; year = y })))

-- under the schema, the text asks for the rowid and the year of each row of that tree, whose year is in that column
abbrev pub AsksYears : Schema → List ℕ → ℕ → ℕ → Type 0
AsksYears schema text tree place = AsksFor schema text tree [] (0 ∷ place ∷ [])

-- the rows of a table of plans: each has a rowid of its own, and a year that an office can have
pub record ArePlanRows (place : ℕ) (rows : List Row) : Type 0 where
  pub rowids : HasRowids rows
  pub years : AreOfYears place rows

-- ---- rowids of all tables

-- the rowids are numbers, and no two rows have one, in the tables whose keys rest on that
pub record HavePlanRowids (trees : Trees) : Type 0 where
  pub nodes : HasRowids (trees table_of_nodes.tree)
  pub places : HasRowids (trees table_of_plan_items.tree)
  pub calendar : HasRowids (trees table_of_calendar.tree)

-- the tables of the survey that have rowids of their own
pub record HaveSurveyRowids (trees : Trees) : Type 0 where
  pub assignments : HasRowids (trees table_of_assignments_2.tree)
  pub quotes : HasRowids (trees table_of_quotes_2.tree)
  pub references : HasRowids (trees table_of_plan_refs.tree)

-- the tables of the releases
pub record HaveReleaseRowids (trees : Trees) : Type 0 where
  pub headers : HasRowids (trees table_of_releases_2.tree)
  pub frozen : HasRowids (trees table_of_frozen_2.tree)
  pub carried : HasRowids (trees table_of_carried_2.tree)
  pub levels : HasRowids (trees table_of_levels_2.tree)

-- the same, in the tables of schema 1 whose rows schema 2 has anew
pub record HaveFirstSurveyRowids (trees : Trees) : Type 0 where
  pub assignments : HasRowids (trees table_of_assignments.tree)
  pub quotes : HasRowids (trees table_of_quotes.tree)

-- the tables of the releases of schema 1
pub record HaveFirstReleaseRowids (trees : Trees) : Type 0 where
  pub headers : HasRowids (trees table_of_releases.tree)
  pub frozen : HasRowids (trees table_of_frozen.tree)
  pub carried : HasRowids (trees table_of_carried.tree)
  pub levels : HasRowids (trees table_of_levels.tree)

-- the tables of schema 1
pub record HaveFirstRowids (trees : Trees) : Type 0 where
  pub survey : HaveFirstSurveyRowids trees
  pub releases : HaveFirstReleaseRowids trees

-- the tables of schema 2
pub record HaveRowids (trees : Trees) : Type 0 where
  pub plans : HavePlanRowids trees
  pub survey : HaveSurveyRowids trees
  pub releases : HaveReleaseRowids trees

-- the tables of schema 1 whose rows schema 2 has anew hold nothing
pub record AreCleared (trees : Trees) : Type 0 where
  pub assignments : trees table_of_assignments.tree ≡ []
  pub quotes : trees table_of_quotes.tree ≡ []
  pub headers : trees table_of_releases.tree ≡ []
  pub frozen : trees table_of_frozen.tree ≡ []
  pub carried : trees table_of_carried.tree ≡ []
  pub levels : trees table_of_levels.tree ≡ []

-- the tables that schema 2 took over are as they were
pub record KeepsLists (old new : Trees) : Type 0 where
  pub collectors : new table_of_collectors.tree ≡ old table_of_collectors.tree
  pub outlets : new table_of_outlets.tree ≡ old table_of_outlets.tree
  pub items : new table_of_items.tree ≡ old table_of_items.tree
  pub nodes : new table_of_nodes.tree ≡ old table_of_nodes.tree
  pub places : new table_of_plan_items.tree ≡ old table_of_plan_items.tree
  pub calendar : new table_of_calendar.tree ≡ old table_of_calendar.tree

-- the rows of schema 1, whose number was 1, are in the tables of schema 2, which are all there: each table that both
-- schemas have is as it was, each that schema 2 has anew holds a copy of every row, and no year has a reference month;
-- so the office is the one that they stood for. The old tables hold them no longer.
pub record IsMigrated (old new : Trees) : Type 0 where
  pub was : IsVersion 1 (old table_of_version.tree)
  pub tables : HasAllTables new
  pub lists : KeepsLists old new
  pub copied : HasCopies old new
  pub references : new table_of_plan_refs.tree ≡ []
  pub office : office_in new ≡ first_office_in old
  pub version : IsVersion 2 (new table_of_version.tree)
  pub cleared : AreCleared new

-- What an open leaves is the database of an office: a new one if there was no table, the tables of schema 2 as they
-- were, or those of schema 1 migrated.
abbrev pub IsOpened : State → State → Type 0
IsOpened old new =
    (((old.now.schema ≡ no_schema) × HoldsNothing new.now.trees)
    ⊎ (((old.now.schema ≡ office_schema) × (new.now ≡ old.now))
    ⊎ ((old.now.schema ≡ first_schema) × IsMigrated old.now.trees new.now.trees)))
    × (new.now.schema ≡ office_schema) × IsOfficeDatabase new.now.trees

-- a crash leaves the rows as they are
abbrev pub IsSettled : State → Type 0
IsSettled s = (db : Trees) → s.may_leave db → db ≡ s.now.trees

-- the schema is schema 1
abbrev pub IsFirstSchema : Schema → Type 0
IsFirstSchema schema = schema ≡ first_schema

-- the schema is schema 2
abbrev pub IsSecond : Schema → Type 0
IsSecond schema = schema ≡ office_schema

-- over a schema that is so, nothing is committed
abbrev pub IsQuietOver : (Schema → Type 0) → State → Type 0
IsQuietOver Fits s = s.in_transaction ≡ false → Fits s.now.schema → ⊥

-- over a schema that is so, the rows are as they were, and nothing is committed
pub record LooksOver (Fits : Schema → Type 0) (old new : State) : Type 0 where
  pub clean : IsCleanBook new → IsCleanBook old
  pub kept : IsCleanBook new → old.in_transaction ≡ false → Fits old.now.schema → IsKept old new
  pub crash : Survives old new (λ _. IsQuietOver Fits old)

-- What an open may commit is the database of an office: of one that holds nothing if there was no table, or that of
-- schema 1 migrated.
abbrev pub MayBeMade : State → Trees → Type 0
MayBeMade old db =
    IsOfficeDatabase db
    × (((old.now.schema ≡ no_schema) × HoldsNothing db)
    ⊎ ((old.now.schema ≡ first_schema) × IsMigrated old.now.trees db))

-- a migration is done
pub record IsMoved (old new : State) : Type 0 where
  pub schema : new.now.schema ≡ office_schema
  pub migrated : IsMigrated old.now.trees new.now.trees
  pub survey : HaveSurveyRowids new.now.trees
  pub releases : HaveReleaseRowids new.now.trees
