-- The only row of a text.
use Rattle.std.specs.Prelude.{List, [], ◌∷◌, Option, Some, None}
use Rattle.cpi_wire.specs.Arguments.{Text}
use Rattle.cpi_wire.specs.Input.{Record, records_of}

abbrev pub only_record : List Record → Option Record
only_record [] = None
only_record (row ∷ []) = Some row
only_record (row ∷ other ∷ rows) = None

unfoldable pub only_row_of : Text → Option Record
only_row_of text = only_record (records_of text)
