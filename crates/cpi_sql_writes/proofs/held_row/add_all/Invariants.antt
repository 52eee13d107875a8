use Rattle.std.proofs.Common.{◌≡◌, ◌≤◌, ◌-◌, length, take}
use Rattle.sqlite.specs.Held.{state}
use Rattle.cpi_sql_writes.specs.Within.{AddsTo, Changes, Inside}
use Rattle.cpi_sql_writes.proofs.held_row.add_all.Given as goal

abbrev pub invariant-all : goal.invariant-all
invariant-all g l =
    let row = g.T.HeldRow in
    let old = state g.S.Store l.fn.tx.conn.now in
    let now = state g.S.Store l.tx.conn.now in record {
      same_reference : l.tx.conn.ghost_name ≡ l.fn.tx.conn.ghost_name;
      among : l.at ≤ length l.rows;
      added : Inside old now (Changes row.table.tree (AddsTo row.entry (row.goes_by l.fn.holder) (take l.at l.rows))
          old now);
    }

abbrev pub decreases-all : goal.decreases-all
decreases-all g l = length l.rows - l.at
