use Rattle.std.proofs.Common.{take}
use Rattle.sqlite.specs.Values.{bound}
use Rattle.cpi_sql_writes.specs.Columns.{AreColumnsOf}
use Rattle.cpi_sql_writes.proofs.held_row.columns_of.Given as goal

abbrev pub invariant-all : goal.invariant-all
invariant-all g l =
    let row = g.T.HeldRow in
    AreColumnsOf row.table row.entry (row.goes_by l.fn.holder) (take l.i l.rows) (bound l.all.items)
