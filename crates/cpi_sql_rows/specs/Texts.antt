-- The fixed statements, and what each means under the schema.
use Rattle.std.specs.Prelude.{ℕ, zero, suc, ◌+◌, pos, negsuc, false, List, [], ◌∷◌, ◌++◌, Some, None, codes}
use Rattle.sqlite.specs.Collation.TheVariants.{Binary}
use Rattle.sqlite_value.specs.Keys.{ascending}
use Rattle.sqlite_value.specs.declared.keys.Key.{Key}
use Rattle.sqlite.specs.declared.types.Value.TheVariants.{Null, Int}
use Rattle.sqlite.specs.Term.{Term, lit, col, op2}
use Rattle.sqlite_sql.specs.declared.ops.BinaryOp.TheVariants.{Compare}
use Rattle.sqlite_sql.specs.declared.ops.CompareOp.TheVariants.{Eq}
use Rattle.sqlite.specs.Query.{Query, inner, end}
use Rattle.sqlite.specs.Source.TheVariants.{Values}
use Rattle.sqlite.specs.Command.{Command}
use Rattle.sqlite.specs.Command.TheVariants.{Insert, InsertOr, Delete, Select}
use Rattle.sqlite_schema.specs.declared.command.Conflict.TheVariants.{Abort}

-- a query on one table with no limit
abbrev pub whole_query : ℕ → List Term → List Term → List (Term × Key) → Query
whole_query tree terms project order =
    record {
      from = inner tree end;
      filter = terms;
      group = None;
      project = project;
      distinct = false;
      collations = [];
      order = order;
      limit = lit (Int (negsuc 0));
      offset = lit (Int (pos 0));
    }

-- the column is the first parameter
abbrev pub is_first_parameter : ℕ → List Term
is_first_parameter place = op2 (Compare Eq Binary) (col 1 place) (col 0 0) ∷ []

-- rows in the order of these columns
abbrev pub by_columns : List ℕ → List (Term × Key)
by_columns [] = []
by_columns (c ∷ cs) = (col 1 c, ascending Binary) ∷ by_columns cs

-- these columns
abbrev pub columns : List ℕ → List Term
columns [] = []
columns (c ∷ cs) = col 1 c ∷ columns cs

-- a query of one table
abbrev pub select : ℕ → List Term → List ℕ → List ℕ → List (List ℕ) → Command
select tree terms shown order names = Select (record {
  lets = [];
  body = whole_query tree terms (columns shown) (by_columns order);
}) names

-- so many parameters from a place on
abbrev pub given_columns : ℕ → ℕ → List Term
given_columns zero from = []
given_columns (suc count) from = col 0 from ∷ given_columns count (suc from)

-- rows of so many parameters each, one after the other; each row has a rowid of its own before them
abbrev pub given_rows : ℕ → ℕ → ℕ → List Term
given_rows width zero from = []
given_rows width (suc count) from = lit Null ∷ given_columns width from ++ given_rows width count (from + width)

-- the text of such a row, so many times, with a comma between each two
abbrev pub text_rows : ℕ → List ℕ → List ℕ
text_rows zero row = []
text_rows (suc zero) row = row
text_rows (suc (suc count)) row = row ++ (codes ", " ++ text_rows (suc count) row)

-- ---- the number of the schema

-- puts the number of the schema
abbrev pub put_version_text : List ℕ
put_version_text = codes "INSERT INTO version (number) VALUES (2)"

-- what it means
abbrev pub put_version_command : Command
put_version_command = Insert 0 (Values (lit (Int (pos 2)) ∷ lit Null ∷ []) 2)

-- ---- collectors

-- reads all collectors
abbrev pub registrations_text : List ℕ
registrations_text = codes "SELECT number, key FROM collector ORDER BY number"

-- adds a collector
abbrev pub put_collector_text : List ℕ
put_collector_text = codes "INSERT INTO collector (number, key) VALUES (?1, ?2)"

-- a row is its rowid, and then its columns, of which the key is NULL
abbrev pub given_pair : List Term
given_pair = col 0 0 ∷ lit Null ∷ col 0 1 ∷ []

-- what it means
abbrev pub put_collector_command : Command
put_collector_command = Insert 1 (Values given_pair 3)

-- ---- outlets

-- reads all outlets
abbrev pub outlets_text : List ℕ
outlets_text = codes "SELECT number, name FROM outlet ORDER BY number"

-- adds an outlet
abbrev pub put_outlet_text : List ℕ
put_outlet_text = codes "INSERT INTO outlet (number, name) VALUES (?1, ?2)"

-- what it means
abbrev pub put_outlet_command : Command
put_outlet_command = Insert 2 (Values given_pair 3)

-- ---- items

-- reads all items
abbrev pub items_text : List ℕ
items_text = codes "SELECT code, text, unit, low, high FROM item ORDER BY code"

-- adds an item
abbrev pub put_item_text : List ℕ
put_item_text = codes "INSERT INTO item (code, text, unit, low, high) VALUES (?1, ?2, ?3, ?4, ?5)"

-- what it means
abbrev pub put_item_command : Command
put_item_command = Insert 3 (Values (lit Null ∷ col 0 0 ∷ col 0 1 ∷ col 0 2 ∷ col 0 3 ∷ col 0 4 ∷ []) 6)

-- ---- calendar

-- reads the calendar
abbrev pub calendar_text : List ℕ
calendar_text = codes "SELECT month, opens, closes, publishes FROM calendar ORDER BY month"

-- puts a row of the calendar
abbrev pub put_calendar_text : List ℕ
put_calendar_text = codes
    "INSERT INTO calendar (month, opens, closes, publishes) VALUES (?1, ?2, ?3, ?4) ON CONFLICT (month) DO UPDATE SET opens = excluded.opens, closes = excluded.closes, publishes = excluded.publishes"

-- what is written, of the parameters
abbrev pub given_calendar : List Term
given_calendar = col 0 0 ∷ lit Null ∷ col 0 1 ∷ col 0 2 ∷ col 0 3 ∷ []

-- the parameters are followed by the rowid of the row that is there, and by the new row
abbrev pub update_calendar : Query
update_calendar = whole_query 10 (op2 (Compare Eq Binary) (col 1 0) (col 0 4) ∷ []) (col 1 0 ∷ col 1 0 ∷ lit Null
    ∷ col 0 7 ∷ col 0 8 ∷ col 0 9 ∷ []) []

-- what it means
abbrev pub put_calendar_command : Command
put_calendar_command = InsertOr 6 Abort (Values given_calendar 5) (record {
  target = Some (0 ∷ []);
  update = Some (record { lets = []; body = update_calendar });
} ∷ [])

-- ---- assignments

-- reads all assignments
abbrev pub all_assignments_text : List ℕ
all_assignments_text = codes
    "SELECT collector, slot, outlet, item, first_month, last_month, series_collector, series_slot, copied FROM assignment_2 ORDER BY collector, slot"

-- adds an assignment
abbrev pub put_assignment_text : List ℕ
put_assignment_text = codes
    "INSERT INTO assignment_2 (collector, slot, outlet, item, first_month, last_month, series_collector, series_slot, copied) VALUES (?1, ?2, ?3, ?4, ?5, ?6, ?7, ?8, ?9)"

-- what is written, of the parameters
abbrev pub given_assignment : List Term
given_assignment =
    lit Null ∷ col 0 0 ∷ col 0 1 ∷ col 0 2 ∷ col 0 3 ∷ col 0 4 ∷ col 0 5 ∷ col 0 6 ∷ col 0 7 ∷ col 0 8 ∷ []

-- what it means
abbrev pub put_assignment_command : Command
put_assignment_command = Insert 13 (Values given_assignment 10)

-- puts an assignment in place of the one that its slot has
abbrev pub replace_given_text : List ℕ
replace_given_text = codes
    "INSERT INTO assignment_2 (collector, slot, outlet, item, first_month, last_month, series_collector, series_slot, copied) VALUES (?1, ?2, ?3, ?4, ?5, ?6, ?7, ?8, ?9) ON CONFLICT (collector, slot) DO UPDATE SET collector = excluded.collector, slot = excluded.slot, outlet = excluded.outlet, item = excluded.item, first_month = excluded.first_month, last_month = excluded.last_month, series_collector = excluded.series_collector, series_slot = excluded.series_slot, copied = excluded.copied"

-- nine parameters, the rowid that is there, and then the new row's rowid and columns
abbrev pub update_given : Query
update_given = whole_query 22 (op2 (Compare Eq Binary) (col 1 0) (col 0 9) ∷ []) (col 1 0 ∷ col 1 0 ∷ col 0 11
    ∷ col 0 12 ∷ col 0 13 ∷ col 0 14 ∷ col 0 15 ∷ col 0 16 ∷ col 0 17 ∷ col 0 18 ∷ col 0 19 ∷ []) []

-- what it means
abbrev pub replace_given_command : Command
replace_given_command = InsertOr 13 Abort (Values given_assignment 10) (record {
  target = Some (1 ∷ 2 ∷ []);
  update = Some (record { lets = []; body = update_given });
} ∷ [])

-- ---- quotes

-- reads all quotes
abbrev pub all_quotes_text : List ℕ
all_quotes_text = codes "SELECT collector, slot, month, mark, value, receipt FROM quote_2"

-- puts a quote
abbrev pub put_quote_text : List ℕ
put_quote_text = codes
    "INSERT INTO quote_2 (collector, slot, month, mark, value, receipt) VALUES (?1, ?2, ?3, ?4, ?5, ?6) ON CONFLICT (collector, slot, month) DO UPDATE SET collector = excluded.collector, slot = excluded.slot, month = excluded.month, mark = excluded.mark, value = excluded.value, receipt = excluded.receipt"

-- what is written, of the parameters
abbrev pub given_quote : List Term
given_quote = lit Null ∷ col 0 0 ∷ col 0 1 ∷ col 0 2 ∷ col 0 3 ∷ col 0 4 ∷ col 0 5 ∷ []

-- six parameters, the rowid that is there, and then the new row's rowid and columns
abbrev pub update_quote : Query
update_quote = whole_query 24 (op2 (Compare Eq Binary) (col 1 0) (col 0 6) ∷ []) (col 1 0 ∷ col 1 0 ∷ col 0 8
    ∷ col 0 9 ∷ col 0 10 ∷ col 0 11 ∷ col 0 12 ∷ col 0 13 ∷ []) []

-- what it means
abbrev pub put_quote_command : Command
put_quote_command = InsertOr 14 Abort (Values given_quote 7) (record {
  target = Some (1 ∷ 2 ∷ 3 ∷ []);
  update = Some (record { lets = []; body = update_quote });
} ∷ [])

-- ---- plans

-- reads the nodes of a year
abbrev pub nodes_text : List ℕ
nodes_text = codes "SELECT year, code, title, weight FROM node WHERE year = ?1 ORDER BY year, code"

-- reads the places of a year
abbrev pub places_text : List ℕ
places_text = codes "SELECT year, item, code FROM plan_item WHERE year = ?1 ORDER BY year, item"

-- adds so many nodes
abbrev pub add_node_text : ℕ → List ℕ
add_node_text count =
    codes "INSERT INTO node (year, code, title, weight) VALUES "
    ++ text_rows count (codes "(?, ?, ?, ?)")

-- what it means
abbrev pub add_node_command : ℕ → Command
add_node_command count = Insert 4 (Values (given_rows 4 count 0) 5)

-- adds so many places
abbrev pub add_place_text : ℕ → List ℕ
add_place_text count =
    codes "INSERT INTO plan_item (year, item, code) VALUES "
    ++ text_rows count (codes "(?, ?, ?)")

-- what it means
abbrev pub add_place_command : ℕ → Command
add_place_command count = Insert 5 (Values (given_rows 3 count 0) 4)

-- reads the reference month of a year
abbrev pub references_text : List ℕ
references_text = codes "SELECT year, month FROM plan_ref WHERE year = ?1 ORDER BY year, month"

-- adds a reference month
abbrev pub add_reference_text : List ℕ
add_reference_text = codes "INSERT INTO plan_ref (year, month) VALUES (?1, ?2)"

-- what it means
abbrev pub add_reference_command : Command
add_reference_command = Insert 19 (Values given_pair 3)

-- drops the reference month of a year
abbrev pub drop_references_text : List ℕ
drop_references_text = codes "DELETE FROM plan_ref WHERE year = ?1"

-- what it means
abbrev pub drop_references_command : Command
drop_references_command = Delete 19 (record {
  lets = [];
  body = whole_query 34 (is_first_parameter 0)
      (col 1 0 ∷ []) [];
})

-- drops the nodes of a year
abbrev pub drop_nodes_text : List ℕ
drop_nodes_text = codes "DELETE FROM node WHERE year = ?1"

-- what it means
abbrev pub drop_nodes_command : Command
drop_nodes_command = Delete 4 (record { lets = []; body = whole_query 6 (is_first_parameter 1) (col 1 0 ∷ []) [] })

-- drops the places of a year
abbrev pub drop_places_text : List ℕ
drop_places_text = codes "DELETE FROM plan_item WHERE year = ?1"

-- what it means
abbrev pub drop_places_command : Command
drop_places_command = Delete 5 (record { lets = []; body = whole_query 8 (is_first_parameter 1) (col 1 0 ∷ []) [] })

-- ---- releases

-- the month and the revision are the first two parameters
abbrev pub is_release : List Term
is_release = op2 (Compare Eq Binary) (col 1 1) (col 0 0) ∷ op2 (Compare Eq Binary) (col 1 2) (col 0 1) ∷ []

-- reads all headers
abbrev pub headers_text : List ℕ
headers_text = codes "SELECT month, revision, frozen_at, publishes, carry FROM release_2 ORDER BY month, revision"

-- reads the frozen quotes of a release
abbrev pub frozen_text : List ℕ
frozen_text =
    codes "SELECT month, revision, collector, slot, item, last_month, mark, value FROM frozen_2 WHERE month = ?1 AND revision = ?2 ORDER BY month, revision, collector, slot"

-- reads the carried prices of a release
abbrev pub carried_text : List ℕ
carried_text =
    codes "SELECT month, revision, collector, slot, item, last_month, ticks, knum, kden, observed, imputed FROM carried_2 WHERE month = ?1 AND revision = ?2 ORDER BY month, revision, collector, slot"

-- reads the table of a release
abbrev pub levels_text : List ℕ
levels_text =
    codes "SELECT month, revision, code, title, weight, within, chained, month_change, year_change, imputed FROM level_2 WHERE month = ?1 AND revision = ?2 ORDER BY month, revision, code"

-- adds a header
abbrev pub add_header_text : List ℕ
add_header_text =
    codes "INSERT INTO release_2 (month, revision, frozen_at, publishes, carry) VALUES (?1, ?2, ?3, ?4, ?5)"

-- what is written, of the parameters
abbrev pub add_header_terms : List Term
add_header_terms =
    lit Null ∷ col 0 0 ∷ col 0 1 ∷ col 0 2 ∷ col 0 3 ∷ col 0 4 ∷ []

-- what it means
abbrev pub add_header_command : Command
add_header_command = Insert 15 (Values add_header_terms 6)

-- adds so many frozen quotes
abbrev pub add_frozen_text : ℕ → List ℕ
add_frozen_text count =
    codes "INSERT INTO frozen_2 (month, revision, collector, slot, item, last_month, mark, value) VALUES "
    ++ text_rows count (codes "(?, ?, ?, ?, ?, ?, ?, ?)")

-- what it means
abbrev pub add_frozen_command : ℕ → Command
add_frozen_command count = Insert 16 (Values (given_rows 8 count 0) 9)

-- adds so many carried prices
abbrev pub add_carried_text : ℕ → List ℕ
add_carried_text count =
    codes "INSERT INTO carried_2 (month, revision, collector, slot, item, last_month, ticks, knum, kden, observed, imputed) VALUES "
    ++ text_rows count (codes "(?, ?, ?, ?, ?, ?, ?, ?, ?, ?, ?)")

-- what it means
abbrev pub add_carried_command : ℕ → Command
add_carried_command count = Insert 17 (Values (given_rows 11 count 0) 12)

-- adds so many rows of a table
abbrev pub add_level_text : ℕ → List ℕ
add_level_text count =
    codes "INSERT INTO level_2 (month, revision, code, title, weight, within, chained, month_change, year_change, imputed) VALUES "
    ++ text_rows count (codes "(?, ?, ?, ?, ?, ?, ?, ?, ?, ?)")

-- what it means
abbrev pub add_level_command : ℕ → Command
add_level_command count = Insert 18 (Values (given_rows 10 count 0) 11)

-- drops the frozen quotes of a release
abbrev pub drop_frozen_text : List ℕ
drop_frozen_text = codes "DELETE FROM frozen_2 WHERE month = ?1 AND revision = ?2"

-- what it means
abbrev pub drop_frozen_command : Command
drop_frozen_command =
    Delete 16 (record { lets = []; body = whole_query 28 is_release (col 1 0 ∷ []) [] })

-- drops the carried prices of a release
abbrev pub drop_carried_text : List ℕ
drop_carried_text = codes "DELETE FROM carried_2 WHERE month = ?1 AND revision = ?2"

-- what it means
abbrev pub drop_carried_command : Command
drop_carried_command =
    Delete 17 (record { lets = []; body = whole_query 30 is_release (col 1 0 ∷ []) [] })

-- drops the table of a release
abbrev pub drop_level_text : List ℕ
drop_level_text = codes "DELETE FROM level_2 WHERE month = ?1 AND revision = ?2"

-- what it means
abbrev pub drop_level_command : Command
drop_level_command =
    Delete 18 (record { lets = []; body = whole_query 32 is_release (col 1 0 ∷ []) [] })
