-- The statements that bring the rows of schema 1 into the tables of schema 2, and what each means under it.
use Rattle.std.proofs.Common.{ℕ, ◌+◌, pos, List, [], ◌∷◌, ◌++◌, get_or, map, refl}
use Rattle.std.specs.List.{AllZip}
use Rattle.sqlite.specs.Collation.{Collation}
use Rattle.sqlite.specs.Collation.TheVariants.{Binary}
use Rattle.sqlite.specs.Query.{Query}
use Rattle.sqlite.specs.declared.types.Value.TheVariants.{Null, Int}
use Rattle.sqlite.specs.Table.{Table}
use Rattle.sqlite.specs.Term.{Term, lit, col}
use Rattle.sqlite.specs.Source.{Source}
use Rattle.sqlite.specs.Source.TheVariants as source
use Rattle.sqlite.specs.Command.{Command}
use Rattle.sqlite.specs.Command.TheVariants.{Insert, Delete}
use Rattle.sqlite.specs.Listing.{understood}
use Rattle.sqlite_tied.specs.Compute.{everything}
use Rattle.cpi_sql_rows.specs.Tables.{office_schema, table_of_version}
use Rattle.cpi_sql_rows.specs.Texts.{put_version_command, whole_query, columns}
use Rattle.cpi_sql_rows.proofs.Texts.{Makes}
use Rattle.cpi_sql_open.proofs.Texts.{◌▸◌}
use Rattle.cpi_sql_open.specs.declared.migrate.TheConstants.{CLEARS, COPIES, NUMBERS}

-- the table at this place of the schema
abbrev pub table_at : ℕ → Table
table_at at = get_or office_schema.tables at table_of_version

-- a table of schema 1 that schema 2 replaces, six places later, and the columns of their copies
pub record Move : Type 0 where
  pub at : ℕ
  pub cells : List Term

-- one statement: rows are copied into the new table, or each row of a table is taken out
pub data Step : Type 0 where
  copies : Move → Step
  clears : ℕ → Step

-- the place of the table that it writes
abbrev pub place : Step → ℕ
place (copies m) = m.at + 6
place (clears at) = at

-- the tree of that table
abbrev pub tree_of : Step → ℕ
tree_of s = (table_at (place s)).tree

-- the tree of the table that it reads
abbrev pub source_of : Step → ℕ
source_of (copies m) = (table_at m.at).tree
source_of (clears at) = (table_at at).tree

-- ---- commands

-- the collation of each column that is shown
abbrev pub each_binary : List Term → List Collation
each_binary [] = []
each_binary (t ∷ terms) = Binary ∷ each_binary terms

-- what a query on one table shows, as an INSERT takes it
abbrev pub copy_query : ℕ → List Term → Query
copy_query tree project = record (whole_query tree [] project []) { collations = each_binary project }

-- each row is copied, and the rowid of the copy is chosen
abbrev pub copy_source : Move → Source
copy_source m =
    source.Query (record { lets = []; body = copy_query (table_at m.at).tree (lit Null ∷ m.cells) })

abbrev pub command : Step → Command
command (copies m) = Insert (m.at + 6) (copy_source m)
command (clears at) =
    Delete at (record { lets = []; body = whole_query (table_at at).tree [] (col 1 0 ∷ []) [] })

-- ---- the tables that are moved

abbrev pub assignments : Move
assignments = record {
  at = 7;
  cells = columns (1 ∷ 2 ∷ 3 ∷ 4 ∷ 5 ∷ 6 ∷ 1 ∷ 2 ∷ []) ++ lit Null ∷ [];
}

abbrev pub quotes : Move
quotes = record { at = 8; cells = columns (1 ∷ 2 ∷ 3 ∷ 4 ∷ 5 ∷ 6 ∷ []) }

-- the month of a release is its rowid
abbrev pub releases : Move
releases = record { at = 9; cells = col 1 0 ∷ lit (Int (pos 1)) ∷ columns (2 ∷ 3 ∷ 4 ∷ []) }

-- what a release lists has revision 1 after its month
abbrev pub listed_at : ℕ → List ℕ → Move
listed_at at others = record { at = at; cells = col 1 1 ∷ lit (Int (pos 1)) ∷ columns others }

abbrev pub frozen : Move
frozen = listed_at 10 (2 ∷ 3 ∷ 4 ∷ 5 ∷ 6 ∷ 7 ∷ [])

abbrev pub carried : Move
carried = listed_at 11 (2 ∷ 3 ∷ 4 ∷ 5 ∷ 6 ∷ 7 ∷ 8 ∷ 9 ∷ 10 ∷ [])

abbrev pub levels : Move
levels = listed_at 12 (2 ∷ 3 ∷ 4 ∷ 5 ∷ 6 ∷ 7 ∷ 8 ∷ 9 ∷ [])

-- ---- what each text is under the schema of the office

abbrev pub steps : List Step
steps =
    copies assignments ∷ copies quotes ∷ copies releases ∷ copies frozen ∷ copies carried ∷ copies levels
    ∷ clears 12 ∷ clears 11 ∷ clears 10 ∷ clears 9 ∷ clears 8 ∷ clears 7 ∷ []

abbrev pub copy_texts : List (List ℕ)
copy_texts = map (λ t. t.now) COPIES

abbrev pub clear_texts : List (List ℕ)
clear_texts = map (λ t. t.now) CLEARS

-- the text is that statement
abbrev pub IsStep : List ℕ → Step → Type 0
IsStep text s = Makes text (command s)

pub steps_are : AllZip IsStep (copy_texts ++ clear_texts) steps
unfolding understood everything
steps_are =
    (refl, (refl, refl)) ▸ (refl, (refl, refl)) ▸ (refl, (refl, refl)) ▸ (refl, (refl, refl)) ▸ (refl, (refl, refl)) ▸
    (refl, (refl, refl)) ▸ (refl, (refl, refl)) ▸ (refl, (refl, refl)) ▸ (refl, (refl, refl)) ▸ (refl, (refl, refl)) ▸
    (refl, (refl, refl)) ▸ (refl, (refl, refl)) ▸ tt

abbrev pub number_texts : List (List ℕ)
number_texts = map (λ t. t.now) NUMBERS

pub numbers_are : AllZip Makes number_texts (command (clears 0) ∷ put_version_command ∷ [])
unfolding understood everything
numbers_are = (refl, (refl, refl)) ▸ (refl, (refl, refl)) ▸ tt
