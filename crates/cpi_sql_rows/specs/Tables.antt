-- The tables of the office as the port understands their texts: those of schema 1, and then those that schema 2 adds.
use Rattle.std.specs.Prelude.{ℕ, true, false, List, [], ◌∷◌, ◌++◌, Option, Some, None, codes}
use Rattle.sqlite.specs.Collation.TheVariants.{Binary}
use Rattle.sqlite_value.specs.Keys.{plain}
use Rattle.sqlite_value.specs.declared.keys.Order.{Order}
use Rattle.sqlite.specs.declared.types.Value.TheVariants.{Null}
use Rattle.sqlite_schema.specs.declared.schema.Column.{Column}
use Rattle.sqlite_schema.specs.declared.schema.Index.{Index}
use Rattle.sqlite_schema.specs.declared.schema.Reference.{Reference}
use Rattle.sqlite_schema.specs.declared.schema.Action.TheVariants.{NoAction}
use Rattle.sqlite.specs.Table.{Table}
use Rattle.sqlite.specs.Schema.{Schema}
use Rattle.sqlite.specs.Kind.{Kind}
use Rattle.sqlite.specs.Kind.TheVariants.{Integer, Text}
use Rattle.sqlite.specs.Change.{automatics}

-- a column of a STRICT table that may not be NULL
abbrev pub required_column : List ℕ → Kind → Column
required_column name kind = record {
  name = name;
  kind = kind;
  is_strict = true;
  not_null = true;
  default = Null;
  collation = Binary;
}

-- a column of a STRICT table that may be NULL
abbrev pub optional : List ℕ → Kind → Column
optional name kind = record {
  name = name;
  kind = kind;
  is_strict = true;
  not_null = false;
  default = Null;
  collation = Binary;
}

-- the column that is the INTEGER PRIMARY KEY, which the row keeps as its rowid
abbrev pub rowid_column : List ℕ → Column
rowid_column name = record {
  name = name;
  kind = Integer;
  is_strict = true;
  not_null = false;
  default = Null;
  collation = Binary;
}

-- a table with these columns, keys and foreign keys, and nothing else
abbrev pub plain_table : List ℕ → ℕ → List Column → Option ℕ → List ℕ → List (List ℕ) → List Order → List Reference
    → Table
plain_table name tree columns key primary uniques orders references = record {
  name = name;
  tree = tree;
  columns = columns;
  key = key;
  primary = primary;
  uniques = uniques;
  orders = orders;
  checks = [];
  references = references;
  computed = [];
  stamps = record { places = []; terms = []; formats = [] };
  is_counted = false;
}

-- a foreign key to a table
abbrev pub refers : List ℕ → List ℕ → List (List ℕ) → Reference
refers columns parent parent_columns = record {
  columns = columns;
  parent = parent;
  parent_columns = parent_columns;
  on_delete = NoAction;
  on_update = NoAction;
  is_deferred = false;
}

-- the number of the schema
abbrev pub table_of_version : Table
table_of_version = plain_table (codes "version") 0 (rowid_column (codes "number") ∷ []) (Some 0) (0 ∷ []) [] [] []

-- collectors, by number
abbrev pub table_of_collectors : Table
table_of_collectors = plain_table (codes "collector") 1
    (rowid_column (codes "number") ∷ required_column (codes "key") Text ∷ [])
    (Some 0) (0 ∷ []) ((2 ∷ []) ∷ []) (plain ∷ []) []

-- outlets, by number
abbrev pub table_of_outlets : Table
table_of_outlets = plain_table (codes "outlet") 3 (rowid_column (codes "number") ∷ required_column (codes "name") Text ∷
    []) (Some 0)
    (0 ∷ []) [] [] []

-- items, by code
abbrev pub table_of_items : Table
table_of_items = plain_table (codes "item") 4
    (required_column (codes "code") Text ∷ required_column (codes "text") Text ∷ required_column (codes "unit") Text
    ∷ required_column (codes "low") Integer ∷ required_column (codes "high") Integer ∷ [])
    None (1 ∷ []) ((1 ∷ []) ∷ []) (plain ∷ []) []

-- the nodes of all plans, by year and code
abbrev pub table_of_nodes : Table
table_of_nodes = plain_table (codes "node") 6
    (required_column (codes "year") Integer ∷ required_column (codes "code") Text ∷ required_column (codes "title") Text
    ∷ required_column (codes "weight") Integer ∷ [])
    None (1 ∷ 2 ∷ []) ((1 ∷ 2 ∷ []) ∷ []) (plain ∷ []) []

-- the places of all plans, by year and item
abbrev pub table_of_plan_items : Table
table_of_plan_items = plain_table (codes "plan_item") 8
    (required_column (codes "year") Integer ∷ required_column (codes "item") Text ∷ required_column (codes "code")
    Text ∷ [])
    None (1 ∷ 2 ∷ []) ((1 ∷ 2 ∷ []) ∷ []) (plain ∷ [])
    (refers (2 ∷ []) (codes "item") (codes "code" ∷ []) ∷ [])

-- the calendar, by month
abbrev pub table_of_calendar : Table
table_of_calendar = plain_table (codes "calendar") 10
    (rowid_column (codes "month") ∷ required_column (codes "opens") Integer ∷ required_column (codes "closes") Integer
    ∷ required_column (codes "publishes") Integer ∷ [])
    (Some 0) (0 ∷ []) [] [] []

-- assignments of schema 1
abbrev pub table_of_assignments : Table
table_of_assignments = plain_table (codes "assignment") 11
    (required_column (codes "collector") Integer ∷ required_column (codes "slot") Integer ∷ required_column
    (codes "outlet") Integer
    ∷ required_column (codes "item") Text
    ∷ required_column (codes "first_month") Integer ∷ required_column (codes "last_month") Integer ∷ [])
    None (1 ∷ 2 ∷ []) ((1 ∷ 2 ∷ []) ∷ []) (plain ∷ [])
    (refers (1 ∷ []) (codes "collector") (codes "number" ∷ [])
    ∷ refers (3 ∷ []) (codes "outlet") (codes "number" ∷ []) ∷ refers (4 ∷ []) (codes "item") (codes "code" ∷ [])
    ∷ [])

-- quotes of schema 1
abbrev pub table_of_quotes : Table
table_of_quotes = plain_table (codes "quote") 13
    (required_column (codes "collector") Integer ∷ required_column (codes "slot") Integer ∷ required_column
    (codes "month") Integer
    ∷ required_column (codes "mark") Text
    ∷ required_column (codes "value") Integer ∷ required_column (codes "receipt") Integer ∷ [])
    None (1 ∷ 2 ∷ 3 ∷ []) ((1 ∷ 2 ∷ 3 ∷ []) ∷ []) (plain ∷ [])
    (refers (1 ∷ 2 ∷ []) (codes "assignment") (codes "collector" ∷ codes "slot" ∷ []) ∷ [])

-- headers of schema 1
abbrev pub table_of_releases : Table
table_of_releases = plain_table (codes "release") 15
    (rowid_column (codes "month") ∷ required_column (codes "frozen_at") Integer ∷ required_column
    (codes "publishes") Integer
    ∷ required_column (codes "carry") Text ∷ [])
    (Some 0) (0 ∷ []) [] [] []

-- the month of a release
abbrev pub of_release : List Reference
of_release = refers (1 ∷ []) (codes "release") (codes "month" ∷ []) ∷ []

-- frozen quotes of schema 1
abbrev pub table_of_frozen : Table
table_of_frozen = plain_table (codes "frozen") 16
    (required_column (codes "month") Integer ∷ required_column (codes "collector") Integer ∷ required_column
    (codes "slot") Integer
    ∷ required_column (codes "item") Text
    ∷ required_column (codes "last_month") Integer ∷ required_column (codes "mark") Text ∷ required_column
    (codes "value") Integer ∷ [])
    None (1 ∷ 2 ∷ 3 ∷ []) ((1 ∷ 2 ∷ 3 ∷ []) ∷ []) (plain ∷ []) of_release

-- carried prices of schema 1
abbrev pub table_of_carried : Table
table_of_carried = plain_table (codes "carried") 18
    (required_column (codes "month") Integer ∷ required_column (codes "collector") Integer ∷ required_column
    (codes "slot") Integer
    ∷ required_column (codes "item") Text
    ∷ required_column (codes "last_month") Integer ∷ required_column (codes "ticks") Integer ∷ required_column
    (codes "knum") Integer
    ∷ required_column (codes "kden") Integer
    ∷ required_column (codes "observed") Integer ∷ required_column (codes "imputed") Integer ∷ [])
    None (1 ∷ 2 ∷ 3 ∷ []) ((1 ∷ 2 ∷ 3 ∷ []) ∷ []) (plain ∷ []) of_release

-- rows of tables of schema 1
abbrev pub table_of_levels : Table
table_of_levels = plain_table (codes "level") 20
    (required_column (codes "month") Integer ∷ required_column (codes "code") Text ∷ required_column
    (codes "title") Text
    ∷ required_column (codes "weight") Integer
    ∷ required_column (codes "within") Integer ∷ required_column (codes "chained") Integer ∷ required_column
    (codes "month_change") Integer
    ∷ optional (codes "year_change") Integer ∷ required_column (codes "imputed") Integer ∷ [])
    None (1 ∷ 2 ∷ []) ((1 ∷ 2 ∷ []) ∷ []) (plain ∷ []) of_release

-- ---- what schema 2 adds

-- the series that a slot begins or takes over, and the price that is copied at a handover
abbrev pub table_of_assignments_2 : Table
table_of_assignments_2 = plain_table (codes "assignment_2") 22
    (required_column (codes "collector") Integer ∷ required_column (codes "slot") Integer ∷ required_column
    (codes "outlet") Integer
    ∷ required_column (codes "item") Text
    ∷ required_column (codes "first_month") Integer ∷ required_column (codes "last_month") Integer
    ∷ required_column (codes "series_collector") Integer ∷ required_column (codes "series_slot") Integer
    ∷ optional (codes "copied") Integer ∷ [])
    None (1 ∷ 2 ∷ []) ((1 ∷ 2 ∷ []) ∷ []) (plain ∷ [])
    (refers (1 ∷ []) (codes "collector") (codes "number" ∷ [])
    ∷ refers (3 ∷ []) (codes "outlet") (codes "number" ∷ []) ∷ refers (4 ∷ []) (codes "item") (codes "code" ∷ [])
    ∷ [])

-- quotes, by collector, slot and month
abbrev pub table_of_quotes_2 : Table
table_of_quotes_2 = plain_table (codes "quote_2") 24
    (required_column (codes "collector") Integer ∷ required_column (codes "slot") Integer ∷ required_column
    (codes "month") Integer
    ∷ required_column (codes "mark") Text
    ∷ required_column (codes "value") Integer ∷ required_column (codes "receipt") Integer ∷ [])
    None (1 ∷ 2 ∷ 3 ∷ []) ((1 ∷ 2 ∷ 3 ∷ []) ∷ []) (plain ∷ [])
    (refers (1 ∷ 2 ∷ []) (codes "assignment_2") (codes "collector" ∷ codes "slot" ∷ []) ∷ [])

-- headers, by month and revision
abbrev pub table_of_releases_2 : Table
table_of_releases_2 = plain_table (codes "release_2") 26
    (required_column (codes "month") Integer ∷ required_column (codes "revision") Integer ∷ required_column
    (codes "frozen_at") Integer
    ∷ required_column (codes "publishes") Integer
    ∷ required_column (codes "carry") Text ∷ [])
    None (1 ∷ 2 ∷ []) ((1 ∷ 2 ∷ []) ∷ []) (plain ∷ []) []

-- the month and the revision of a release
abbrev pub of_revision : List Reference
of_revision = refers (1 ∷ 2 ∷ []) (codes "release_2") (codes "month" ∷ codes "revision" ∷ []) ∷ []

-- frozen quotes, by release and series
abbrev pub table_of_frozen_2 : Table
table_of_frozen_2 = plain_table (codes "frozen_2") 28
    (required_column (codes "month") Integer ∷ required_column (codes "revision") Integer ∷ required_column
    (codes "collector") Integer
    ∷ required_column (codes "slot") Integer ∷ required_column (codes "item") Text
    ∷ required_column (codes "last_month") Integer ∷ required_column (codes "mark") Text ∷ required_column
    (codes "value") Integer ∷ [])
    None (1 ∷ 2 ∷ 3 ∷ 4 ∷ []) ((1 ∷ 2 ∷ 3 ∷ 4 ∷ []) ∷ []) (plain ∷ []) of_revision

-- carried prices, by release and series
abbrev pub table_of_carried_2 : Table
table_of_carried_2 = plain_table (codes "carried_2") 30
    (required_column (codes "month") Integer ∷ required_column (codes "revision") Integer ∷ required_column
    (codes "collector") Integer
    ∷ required_column (codes "slot") Integer ∷ required_column (codes "item") Text
    ∷ required_column (codes "last_month") Integer ∷ required_column (codes "ticks") Integer ∷ required_column
    (codes "knum") Integer
    ∷ required_column (codes "kden") Integer
    ∷ required_column (codes "observed") Integer ∷ required_column (codes "imputed") Integer ∷ [])
    None (1 ∷ 2 ∷ 3 ∷ 4 ∷ []) ((1 ∷ 2 ∷ 3 ∷ 4 ∷ []) ∷ []) (plain ∷ []) of_revision

-- rows of tables, by release and code
abbrev pub table_of_levels_2 : Table
table_of_levels_2 = plain_table (codes "level_2") 32
    (required_column (codes "month") Integer ∷ required_column (codes "revision") Integer ∷ required_column
    (codes "code") Text
    ∷ required_column (codes "title") Text ∷ required_column (codes "weight") Integer
    ∷ required_column (codes "within") Integer ∷ required_column (codes "chained") Integer ∷ required_column
    (codes "month_change") Integer
    ∷ optional (codes "year_change") Integer ∷ required_column (codes "imputed") Integer ∷ [])
    None (1 ∷ 2 ∷ 3 ∷ []) ((1 ∷ 2 ∷ 3 ∷ []) ∷ []) (plain ∷ []) of_revision

-- the month to whose prices the weights of a year's plan are brought
abbrev pub table_of_plan_refs : Table
table_of_plan_refs = plain_table (codes "plan_ref") 34
    (rowid_column (codes "year") ∷ required_column (codes "month") Integer ∷ [])
    (Some 0) (0 ∷ []) [] [] []

-- ---- the two schemas

-- the tables of schema 1
abbrev pub first_tables : List Table
first_tables =
    table_of_version ∷ table_of_collectors ∷ table_of_outlets ∷ table_of_items ∷ table_of_nodes ∷ table_of_plan_items ∷
    table_of_calendar ∷ table_of_assignments ∷ table_of_quotes
    ∷ table_of_releases ∷ table_of_frozen ∷ table_of_carried ∷ table_of_levels ∷ []

-- their indexes
abbrev pub first_indexes : List Index
first_indexes =
    automatics table_of_collectors 0 2 table_of_collectors.uniques ++ automatics table_of_items 0 5
    table_of_items.uniques ++ automatics table_of_nodes 0 7 table_of_nodes.uniques
    ++ automatics table_of_plan_items 0 9 table_of_plan_items.uniques ++ automatics table_of_assignments 0 12
    table_of_assignments.uniques
    ++ automatics table_of_quotes 0 14 table_of_quotes.uniques ++ automatics table_of_frozen 0 17
    table_of_frozen.uniques
    ++ automatics table_of_carried 0 19 table_of_carried.uniques ++ automatics table_of_levels 0 21
    table_of_levels.uniques

-- schema 1
abbrev pub first_schema : Schema
first_schema = record { tables = first_tables; indexes = first_indexes; views = [] }

-- schema 2: assignments, quotes and frozen lists are only in the new tables
abbrev pub office_schema : Schema
office_schema = record {
  tables =
      first_tables ++ (table_of_assignments_2 ∷ table_of_quotes_2 ∷ table_of_releases_2 ∷ table_of_frozen_2 ∷
      table_of_carried_2 ∷ table_of_levels_2 ∷ table_of_plan_refs ∷ []);
  indexes =
      first_indexes ++ automatics table_of_assignments_2 0 23 table_of_assignments_2.uniques ++ automatics
      table_of_quotes_2 0 25 table_of_quotes_2.uniques
      ++ automatics table_of_releases_2 0 27 table_of_releases_2.uniques ++ automatics table_of_frozen_2 0 29
      table_of_frozen_2.uniques
      ++ automatics table_of_carried_2 0 31 table_of_carried_2.uniques ++ automatics table_of_levels_2 0 33
      table_of_levels_2.uniques;
  views = [];
}
