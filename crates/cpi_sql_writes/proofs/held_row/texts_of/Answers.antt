use Rattle.cpi_sql_writes.proofs.ManyRows.{texts_more}
use Rattle.cpi_sql_writes.proofs.held_row.texts_of.Goals as goal

pub all-preserved : goal.all-preserved
all-preserved g c =
    texts_more g.T.HeldRow.spells c.args.rows.now c.all.row-index c.row-item.result c.all.all.items
    c.in_ok-texts.texts c.push.new.self.items c.all-test.true c.row-item.is
    (rw (← c.in_ok-map_err.ensures.variant) at c.push.ensures.items) c.all.invariant c.in_ok-texts.ensures
