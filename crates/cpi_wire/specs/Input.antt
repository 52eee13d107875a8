-- The records of an input.
use Rattle.std.specs.Prelude.{◌≡◌, ℕ, List, [], ◌∷◌, ◌++◌, Bool, true, false, Option, Some, IfSome}
use Rattle.csv.specs.Reading.{records, default_config, strip_bom, source_of, Reached, Ready}
use Rattle.csv.specs.declared.parser.State.TheVariants as st
use Rattle.csv.specs.declared.reader.Reader.{Reader}
use Rattle.csv.specs.declared.reader.Trim.TheVariants as trim

-- a record, as its fields
abbrev pub Record : Type 0
Record = List (List ℕ)

-- the records of an input without a header row
abbrev pub records_of : List ℕ → List Record
records_of input = records default_config (strip_bom input)

-- these records are the first of the input
abbrev pub AreFirst : List Record → List ℕ → Type 0
AreFirst rows input = (more : List Record) × (records_of input ≡ rows ++ more)

-- the bytes that were read of the input are these records, and no part of another
abbrev pub HasGiven : {R : Type 0} → (R → Option (List ℕ)) → List ℕ → List Record → Reader R → Type 0
HasGiven rem input rows s = (rest : List ℕ) × (source_of rem s ≡ Some rest)
    × Reached default_config st.StartRecord (strip_bom input) rows s.state rest

-- the reader has given these records of the input
pub record IsAt {R : Type 0} (rem : R → Option (List ℕ)) (input : Option (List ℕ)) (rows : List Record)
    (s : Reader R) : Type 0 where
  pub trim : s.trim ≡ trim.None
  pub ready : Ready s
  pub config : s.config ≡ default_config
  pub reached : IfSome input (λ xs. HasGiven rem xs rows s)

-- the reader gave one record more, or had given all records
abbrev pub TakesRecord : {R : Type 0} (rem : R → Option (List ℕ)) (old new : Reader R) (row : Record) (found : Bool)
    → Type 0
TakesRecord rem old new row true =
    (input : Option (List ℕ)) (rows : List Record) → IsAt rem input rows old → IsAt rem input (rows ++ row ∷ []) new
TakesRecord rem old new row false =
    (input : Option (List ℕ)) (rows : List Record) → IsAt rem input rows old → IfSome input (λ xs. rows ≡ records_of xs)
