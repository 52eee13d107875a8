use Rattle.std.proofs.Common.{refl}
use Rattle.cpi_sql_writes.proofs.release_rows.series_columns.Goals as goal

pub returns : goal.returns
returns c = record {
  collector = c.collector_number.ensures.range;
  slot = c.slot_number.ensures.range;
  last = c.month_number.result;
  last_is = c.month_number.ensures;
  columns_are = rw (
    c.to_sql.ensures,
    c.to_sql-2.ensures,
    c.to_sql-3.ensures,
    c.to_sql-4.ensures,
    c.to_sql-5.ensures,
    c.to_sql-6.ensures,
    c.collector_number.ensures.value,
    c.slot_number.ensures.value,
  ) refl;
}
