-- The tests of the tables that an open finds, and the texts that ask for rowids and years.
use Rattle.std.specs.Prelude.{◌≡◌, ℕ, List, [], ◌∷◌, IsTrue}
use Rattle.std.specs.List.{AllByRecursion, AllZip}
use Rattle.sqlite.specs.Schema.{Schema}
use Rattle.sqlite.specs.State.{State, HasCleanDisk, IsLive, Survives}
use Rattle.sqlite.specs.Table.{Table}
use Rattle.cpi_sql_rows.specs.Finding.{ArePlanRows, AreWhole, AsksRowids, AsksYears, HavePlanYears, IsOfOffice}
use Rattle.cpi_sql_rows.specs.Shelf.{HasRowids, HasTables, IsCleanBook, IsKept}
use Rattle.cpi_sql_rows.specs.Numbered.{IsVersion}
use Rattle.cpi_sql_rows.specs.Tables.{first_schema, office_schema, table_of_version}
use Rattle.cpi_sql_open.specs.Making.{MakeEach}

-- under the schema, each of the texts asks for the rowids of its tree
abbrev pub AskEach : List (List ℕ) → List ℕ → Schema → Type 0
AskEach texts trees schema = AllZip (AsksRowids schema) texts trees

-- under the schema, each of the texts asks for the rowids and the years of its table of plans, a tree and the column of
-- the year
abbrev pub AskEachYear : List (List ℕ) → List (ℕ × ℕ) → Schema → Type 0
AskEachYear texts plans schema = AllZip (λ text plan. AsksYears schema text plan.0 plan.1) texts plans

-- the conditions that an open tests: the tables are those of the schema, the rows of these trees have rowids of their
-- own, and those of plans have years too
pub record Wanted : Type 0 where
  pub schema : Schema
  pub trees : List ℕ
  pub plans : List (ℕ × ℕ)

-- the conditions on the tables of schema 2
abbrev pub second_wanted : Wanted
second_wanted = record {
  schema = office_schema;
  trees = 10 ∷ 22 ∷ 24 ∷ 26 ∷ 28 ∷ 30 ∷ 32 ∷ [];
  plans = (6, 1) ∷ (8, 1) ∷ (34, 0) ∷ [];
}

-- the conditions on the tables of schema 1
abbrev pub first_wanted : Wanted
first_wanted = record {
  schema = first_schema;
  trees = 10 ∷ 11 ∷ 13 ∷ 15 ∷ 16 ∷ 18 ∷ 20 ∷ [];
  plans = (6, 1) ∷ (8, 1) ∷ [];
}

-- the texts of a test: those that make the tables that follow those of schema 1, and those that ask for rowids and for
-- years
pub record AreTestsOf (wanted : Wanted) (more scans years : List (List ℕ)) : Type 0 where
  pub tables : List Table
  pub makes : MakeEach more tables first_schema wanted.schema
  pub office : IsOfOffice wanted.schema
  pub asks : AskEach scans wanted.trees wanted.schema
  pub ask_years : AskEachYear years wanted.plans wanted.schema

-- the rows are as they were, and nothing is committed
pub record IsTest (old new : State) : Type 0 where
  pub clean : IsCleanBook new → IsCleanBook old
  pub kept : IsCleanBook new → IsKept old new
  pub crash : Survives old new (λ _. ⊥)

-- the tables met the conditions, and each row of the small ones stood for a value
pub record Finds (wanted : Wanted) (old new : State) : Type 0 where
  pub is : old.now.schema ≡ wanted.schema
  pub live : IsLive old
  pub whole : IsCleanBook new → AreWhole old.now.trees
  pub rise : IsCleanBook new → AllByRecursion (λ tree. HasRowids (old.now.trees tree)) wanted.trees
  pub years : IsCleanBook new → AllByRecursion (λ plan. ArePlanRows plan.1 (old.now.trees plan.0)) wanted.plans
  pub is_open : HasCleanDisk new → IsTrue new.is_open

-- the tables are those of an office, if the number of the schema is 2
pub record FindsOffice (old new : State) : Type 0 where
  pub schema : old.now.schema ≡ office_schema
  pub tables : IsCleanBook new → IsVersion 2 (new.now.trees table_of_version.tree) → HasTables new
  pub whole : IsCleanBook new → AreWhole new.now.trees
  pub years : IsCleanBook new → HavePlanYears new.now.trees
  pub is_open : HasCleanDisk new → IsTrue new.is_open
