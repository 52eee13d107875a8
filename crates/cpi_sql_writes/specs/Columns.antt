-- The columns that rows are written as, one row after the other.
use Rattle.std.specs.Prelude.{◌≡◌, ℕ, suc, Bool, List, [], ◌∷◌, ◌++◌, Option, Some, length, slice_get, if◌then◌else◌}
use Rattle.sqlite.specs.Cast.{cast_row}
use Rattle.sqlite.specs.Command.TheVariants.{Insert}
use Rattle.sqlite.specs.declared.types.Value.{Value}
use Rattle.sqlite.specs.declared.types.Value.TheVariants.{Null}
use Rattle.sqlite.specs.Listing.{understood}
use Rattle.sqlite.specs.Order.{Row}
use Rattle.sqlite.specs.Source.TheVariants.{Values}
use Rattle.sqlite.specs.Table.{Table}
use Rattle.sqlite.proofs.Callers.{IsPlain, command_of}
use Rattle.cpi_sql_rows.specs.Tables.{office_schema, plain_table}
use Rattle.cpi_sql_rows.specs.Texts.{given_rows}

-- the rows that one statement adds
abbrev pub rows_at_once : Bool → ℕ
rows_at_once many = if many then 32 else 1

-- the texts of each, one after the other
abbrev pub AreTextsOf : {X T : Type 0} → (X → T → Type 0) → List X → List T → Type 0
AreTextsOf Spells [] all = all ≡ []
AreTextsOf {T = T} Spells (x ∷ xs) all =
    (texts : T) × (behind : List T) × Spells x texts × AreTextsOf Spells xs behind × (all ≡ texts ∷ behind)

-- the text is an INSERT of so many rows into a table of the office, with their columns as its parameters
abbrev pub IsInsertOf : Table → ℕ → List ℕ → Type 0
IsInsertOf it count text =
    (at : ℕ)
    × (slice_get office_schema.tables at
    ≡ Some (plain_table it.name it.tree it.columns it.key it.primary it.uniques it.orders it.references))
    × (command_of (understood office_schema text)
    ≡ Insert at (Values (given_rows (length it.columns) count 0) (suc (length it.columns))))
    × IsPlain (understood office_schema text)

module _ {X : Type 0} (it : Table) (entry : Row → Option (ℕ × X)) (GoesBy : ℕ → Type 0) where
  -- the columns stand for this, whatever rowid is before them, and the table takes them as they are
  pub record AreColumns (x : X) (columns : Row) : Type 0 where
    pub stand : (id : Value) (number : ℕ) → GoesBy number → entry (id ∷ columns) ≡ Some (number, x)
    pub taken : cast_row it (Null ∷ columns) ≡ Null ∷ columns
    pub width : length columns ≡ length it.columns

  -- the columns of each, one after the other
  abbrev pub AreColumnsOf : List X → Row → Type 0
  AreColumnsOf [] values = values ≡ []
  AreColumnsOf (x ∷ xs) values =
      (columns : Row) × (behind : Row) × AreColumns x columns × AreColumnsOf xs behind × (values ≡ columns ++ behind)

  -- the columns of one more are added at the end
  abbrev pub PutsColumns : X → Row → Row → Type 0
  PutsColumns x old new = (columns : Row) × AreColumns x columns × (new ≡ old ++ columns)
