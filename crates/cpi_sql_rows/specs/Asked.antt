-- What a statement asks of the rows of one table.
use Rattle.std.specs.Prelude.{◌≡◌, ℕ, false, List, []}
use Rattle.sqlite.specs.Listing.{understood, reads_listing}
use Rattle.sqlite.specs.Program.{overlay}
use Rattle.sqlite.specs.Schema.{Schema}
use Rattle.sqlite.specs.Term.{Term}
use Rattle.sqlite.specs.Tree.{Trees}
use Rattle.sqlite.proofs.Callers.{IsPlain, command_of}
use Rattle.cpi_sql_rows.specs.Texts.{select}

-- under the schema, the text asks for these columns of the rows of that tree which pass
pub record AsksFor (schema : Schema) (text : List ℕ) (tree : ℕ) (terms : List Term) (shown : List ℕ) : Type 0 where
  pub order : List ℕ
  pub names : List (List ℕ)
  pub command : command_of (understood schema text) ≡ select tree terms shown order names
  pub listing : reads_listing schema text ≡ false
  pub plain : IsPlain (understood schema text)
  -- the tree is none of a statement's own tables
  pub stored : (trees : Trees) → overlay trees [] tree ≡ trees tree
