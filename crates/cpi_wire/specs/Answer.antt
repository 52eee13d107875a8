-- The answer to a record.
use Rattle.std.specs.Prelude.{List}
use Rattle.cpi_office.specs.declared.reply.Reply.{Reply}

-- the reply to a record that is no import, or the replies to the rows of an import, in their order
pub data Answer : Type 0 where
  One : Reply → Answer
  Rows : List Reply → Answer
