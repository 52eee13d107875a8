use Rattle.std.proofs.Common.{◌≡◌, List}
use Rattle.sqlite.specs.Order.{Row}
use Rattle.sqlite.specs.Held.{state}
use Rattle.sqlite.specs.State.{HasCleanDisk, Survives, CommitsShowing}
use Rattle.sqlite.specs.Values.{bound}
use Rattle.cpi_sql_rows.specs.Read.{AreRead}
use Rattle.cpi_sql_rows.proofs.Streaming.{IsUnderWay}
use Rattle.cpi_sql_rows.proofs.stored.gather.Given as goal

abbrev pub invariant-rows : goal.invariant-rows
invariant-rows g l =
    let old = state g.S.Store l.fn.conn in
    let now = state g.S.Store l.rows.conn.now in
    (l.rows.conn.ghost_name ≡ l.initial.rows.conn.ghost_name)
    × Survives old now (CommitsShowing l.text (bound l.params) old)
    × (HasCleanDisk now → (given : List Row)
    × IsUnderWay g.S.Store l.text (bound l.params) l.fn.conn l.rows.conn.now given
    × AreRead g.T.Stored.stands_for given l.read.items)
