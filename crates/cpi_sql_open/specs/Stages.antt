-- Statements that are run in turn within a transaction.
use Rattle.std.specs.Prelude.{◌≡◌, ℕ, Bool, true, false, List, [], ◌∷◌, Option, None, Ok, IsTrue}
use Rattle.sqlite.specs.Command.{Command}
use Rattle.sqlite.specs.Command.TheVariants.{Insert, Delete, CreateTable}
use Rattle.sqlite.specs.Does.{Tally, Does}
use Rattle.sqlite.specs.declared.run.Mode.{Mode}
use Rattle.sqlite.specs.Effect.{Database, IsDatabase}
use Rattle.sqlite.specs.Listing.{understood}
use Rattle.sqlite.specs.Schema.{Schema}
use Rattle.sqlite.specs.State.{State}
use Rattle.sqlite.proofs.Callers.{IsPlain, command_of, statement_of}
use Rattle.sqlite_schema.specs.declared.schema.Keys.TheVariants.{Enforced}

-- what a transaction sees, and whether it is open
pub record Stage : Type 0 where
  pub now : Database
  pub in_transaction : Bool

-- the stage of a state
abbrev pub stage_of : State → Stage
stage_of s = record { now = s.now; in_transaction = s.in_transaction }

-- the mode in which a connection runs its statements
abbrev pub usual : Mode
usual = record { keys = Enforced; in_doubt = false; may_wait = false }

-- an insertion, a deletion or a CREATE TABLE: the statements that make an office
abbrev pub is_write : Command → Bool
is_write (Insert table from) = true
is_write (Delete table rows) = true
is_write CreateTable = true
is_write _ = false

-- under the schema, the command was carried out
pub record Did (schema : Schema) (text : List ℕ) (command : Command) (old new : Stage) : Type 0 where
  pub limit : Option ℕ
  pub tally : Tally
  pub does : Does limit usual [] (record {
    schema = schema;
    trees = old.now.trees;
  }) (statement_of text (understood schema text)) None command (Ok (tally, new.now))
  pub sound : IsDatabase new.now
  pub mode : new.in_transaction ≡ old.in_transaction

-- within a transaction, the text was run as the statement that it is under the schema
abbrev pub RanAtStage : List ℕ → Stage → Stage → Type 0
RanAtStage text old new = (schema : Schema) (command : Command) → IsTrue (is_write command)
    → command_of (understood schema text) ≡ command → IsPlain (understood schema text) → IsTrue old.in_transaction
    → old.now.schema ≡ schema → Did schema text command old new

-- the texts were run one after the other
abbrev pub RanEach : List (List ℕ) → Stage → Stage → Type 0
RanEach [] old new = old ≡ new
RanEach (text ∷ texts) old new = (mid : Stage) × RanAtStage text old mid × RanEach texts mid new
