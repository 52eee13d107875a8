use Rattle.std.proofs.Common.{◌≡◌, Some, pos, refl}
use Rattle.std.specs.String.{string_bytes}
use Rattle.sqlite.specs.declared.types.Value.TheVariants.{Int, Text}
use Rattle.cpi_sql_rows.specs.Lists.{item_of_values}
use Rattle.cpi_sql_writes.proofs.RowWrites.{item_written}
use Rattle.sqlite.specs.Held.{state}
use Rattle.cpi_sql_writes.proofs.writes.put_item.Goals as goal

pub returns-clause-written : goal.returns-clause-written
returns-clause-written g c =
    let old = state g.S.Store c.args.conn.now in
    let new = state g.S.Store c.put_row.new.conn in
    let item = c.args.item.now in
    let is : item_of_values (Text (string_bytes c.in_ok-code.code)) (Text item.text) (Text item.unit)
    (Int (pos c.low_number-low.result)) (Int (pos c.high_number-high.result)) ≡ Some item = rw (
      c.in_ok-code.ensures,
      c.name_text-text.ensures.name,
      c.name_text-unit.ensures.name,
      c.low_number-low.ensures,
      c.high_number-high.ensures,
    ) refl in
    let runs = rw (
      c.params-to_sql.ensures,
      c.params-to_sql-2.ensures,
      c.params-to_sql-3.ensures,
      c.params-to_sql-4.ensures,
      c.params-to_sql-5.ensures,
      c.as_str.ensures.value,
      c.name_text-text.ensures.value,
      c.name_text-unit.ensures.value,
    ) at c.put_row.ensures in
    item_written old new c.put_row.result item _ _ _ _ _ is runs
