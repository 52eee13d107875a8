-- The tables of an office, as they are made.
use Rattle.std.specs.Prelude.{◌≡◌, List, [], ◌∷◌}
use Rattle.sqlite.specs.Table.{Table}
use Rattle.sqlite.specs.Schema.{Schema}
use Rattle.sqlite.specs.Change.{next_tree}
use Rattle.sqlite.specs.Effect.{IsDatabase}
use Rattle.sqlite.specs.State.{State}
use Rattle.sqlite.specs.Tree.{Trees}
use Rattle.cpi_sql_rows.specs.Numbered.{IsVersion}
use Rattle.cpi_store.specs.Office.{empty_office}
use Rattle.cpi_sql_rows.specs.Lists.{office_in}
use Rattle.cpi_sql_rows.specs.Tables.{table_of_assignments_2, table_of_calendar, table_of_carried_2}
use Rattle.cpi_sql_rows.specs.Tables.{table_of_collectors, table_of_frozen_2, table_of_items, table_of_levels_2}
use Rattle.cpi_sql_rows.specs.Tables.{table_of_nodes, office_schema, table_of_outlets, table_of_plan_items}
use Rattle.cpi_sql_rows.specs.Tables.{table_of_plan_refs, table_of_quotes_2, table_of_releases_2}
use Rattle.cpi_sql_rows.specs.Tables.{table_of_version}
use Rattle.cpi_sql_rows.specs.WholeRows.{AreWhole, HavePlanYears}

-- the schema of an empty database
abbrev pub no_schema : Schema
no_schema = record { tables = []; indexes = []; views = [] }

-- the table as it comes after the tables of the schema
abbrev pub table_behind : Schema → Table → Table
table_behind schema table = record table { tree = next_tree schema }

-- All twenty tables of the office are there: what a database lists of itself, in a tree of its own, is the office's
-- schema, and its rows obey that.
unfoldable pub HasAllTables : Trees → Type 0
HasAllTables trees = IsDatabase (record { schema = office_schema; trees = trees })

-- the database of an office: all its tables, with the number of their schema, small tables whose rows the types take,
-- and rows of plans that are of years which an office can have; an open of a file asks for these
pub record IsOfficeDatabase (trees : Trees) : Type 0 where
  pub tables : HasAllTables trees
  pub version : IsVersion 2 (trees table_of_version.tree)
  pub whole : AreWhole trees
  pub years : HavePlanYears trees

-- the tables of an office are there, and hold nothing but the number of their schema
pub record IsBlank (s : State) : Type 0 where
  pub schema : s.now.schema ≡ office_schema
  pub tables : HasAllTables s.now.trees
  pub version : IsVersion 2 (s.now.trees table_of_version.tree)
  pub collectors : s.now.trees table_of_collectors.tree ≡ []
  pub outlets : s.now.trees table_of_outlets.tree ≡ []
  pub items : s.now.trees table_of_items.tree ≡ []
  pub nodes : s.now.trees table_of_nodes.tree ≡ []
  pub places : s.now.trees table_of_plan_items.tree ≡ []
  pub calendar : s.now.trees table_of_calendar.tree ≡ []
  pub assignments : s.now.trees table_of_assignments_2.tree ≡ []
  pub quotes : s.now.trees table_of_quotes_2.tree ≡ []
  pub releases : s.now.trees table_of_releases_2.tree ≡ []
  pub frozen : s.now.trees table_of_frozen_2.tree ≡ []
  pub carried : s.now.trees table_of_carried_2.tree ≡ []
  pub levels : s.now.trees table_of_levels_2.tree ≡ []
  pub references : s.now.trees table_of_plan_refs.tree ≡ []

-- the rows are those of an office that holds nothing
unfoldable pub HoldsNothing : Trees → Type 0
HoldsNothing trees = office_in trees ≡ empty_office

-- the database of an office that holds nothing
pub record IsNewDatabase (trees : Trees) : Type 0 where
  pub database : IsOfficeDatabase trees
  pub office : HoldsNothing trees

-- what schema 2 adds
abbrev pub second_tables : List Table
second_tables = table_of_assignments_2 ∷ table_of_quotes_2 ∷ table_of_releases_2 ∷ table_of_frozen_2 ∷
    table_of_carried_2 ∷ table_of_levels_2 ∷ table_of_plan_refs ∷ []
