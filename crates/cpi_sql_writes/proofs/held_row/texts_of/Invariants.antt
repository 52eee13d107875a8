use Rattle.std.proofs.Common.{take}
use Rattle.cpi_sql_writes.specs.Columns.{AreTextsOf}
use Rattle.cpi_sql_writes.proofs.held_row.texts_of.Given as goal

abbrev pub invariant-all : goal.invariant-all
invariant-all g l = AreTextsOf g.T.HeldRow.spells (take l.row-index l.rows) l.all.items
