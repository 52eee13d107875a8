use Rattle.std.proofs.Common.{◌≡◌, Some, pos, refl}
use Rattle.sqlite.specs.declared.types.Value.TheVariants.{Int, Text}
use Rattle.cpi_sql_rows.specs.Lists.{outlet_from}
use Rattle.cpi_sql_writes.proofs.RowWrites.{outlet_written}
use Rattle.sqlite.specs.Held.{state}
use Rattle.cpi_sql_writes.proofs.writes.put_outlet.Goals as goal

pub returns-clause-written : goal.returns-clause-written
returns-clause-written g c =
    let old = state g.S.Store c.args.conn.now in
    let new = state g.S.Store c.put_row.new.conn in
    let outlet = c.args.outlet.now in
    let is : outlet_from (Int (pos c.outlet_number-number.result)) (Text outlet.name) ≡ Some outlet =
    rw (c.outlet_number-number.ensures, c.name_text-name.ensures.name) refl in
    let runs = rw (
      c.params-to_sql.ensures,
      c.params-to_sql-2.ensures,
      c.name_text-name.ensures.value,
    ) at c.put_row.ensures in
    outlet_written old new c.put_row.result outlet _ _ is runs
