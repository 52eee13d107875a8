-- Lists of CREATE TABLEs.
use Rattle.std.specs.Prelude.{◌≡◌, ℕ, false, List, [], ◌∷◌, Ok}
use Rattle.sqlite.specs.Change.{created}
use Rattle.sqlite.specs.Command.TheVariants.{CreateTable}
use Rattle.sqlite.specs.Compile.{table_defined_by}
use Rattle.sqlite.specs.Does.{lacks_sequence}
use Rattle.sqlite.specs.Listing.{understood}
use Rattle.sqlite.specs.Schema.{Schema}
use Rattle.sqlite.specs.Table.{Table}
use Rattle.sqlite.proofs.Callers.{IsPlain, command_of, statement_of}
use Rattle.cpi_sql_rows.specs.Making.{table_behind}

-- under the schema the text makes this table, after those that are there
pub record MakesTable (schema : Schema) (text : List ℕ) (table : Table) : Type 0 where
  pub command : command_of (understood schema text) ≡ CreateTable
  pub plain : IsPlain (understood schema text)
  pub whole : statement_of text (understood schema text) ≡ text
  pub defined : table_defined_by text ≡ Ok (record table { tree = 0 })
  pub counted : lacks_sequence (created schema table) ≡ false
  pub place : table_behind schema table ≡ table

-- the texts make these tables in turn, from the one schema to the other
abbrev pub MakeEach : List (List ℕ) → List Table → Schema → Schema → Type 0
MakeEach [] [] from to = from ≡ to
MakeEach [] (table ∷ tables) from to = ⊥
MakeEach (text ∷ texts) [] from to = ⊥
MakeEach (text ∷ texts) (table ∷ tables) from to =
    MakesTable from text table × MakeEach texts tables (created from table) to
