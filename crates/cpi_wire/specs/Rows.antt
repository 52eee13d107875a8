-- The line of the answer to a record: one JSON text, and a line feed.
use Rattle.std.specs.Prelude.{ℕ, List, [], ◌∷◌, ◌++◌, Bool, map, codes}
use Rattle.serde_json.specs.Data.{Data}
use Rattle.serde_json.specs.Written.{compact_text}
use Rattle.cpi_office.specs.declared.reply.Reply.{Reply}
use Rattle.cpi_wire.specs.Answer.{Answer}
use Rattle.cpi_wire.specs.Answer as answer
use Rattle.cpi_wire.specs.Json.{list, object_of_one, added_item}
use Rattle.cpi_wire.specs.Line.{data_of, line_of_reply}

-- the replies to the rows of an import, in one list
abbrev pub rows_data : List Reply → Data
rows_data replies = object_of_one (codes "rows") (list (map data_of replies))

-- the line of these replies: JSON without spaces
abbrev pub rows_line : List Reply → List ℕ
rows_line replies = compact_text (rows_data replies) ++ 10 ∷ []

-- what a reply adds to that line: its text, after a comma if it isn't the first
abbrev pub added_text : Bool → Reply → List ℕ
added_text is_first reply = added_item is_first (data_of reply)

abbrev pub answer_line : Answer → List ℕ
answer_line (answer.One reply) = line_of_reply reply
answer_line (answer.Rows replies) = rows_line replies
