use Rattle.std.proofs.Common.{refl}
use Rattle.sqlite.specs.Held.{state}
use Rattle.cpi_sql_writes.proofs.RowWrites.{quote_written}
use Rattle.cpi_sql_writes.proofs.writes.put_quote.Goals as goal

pub returns-clause-written : goal.returns-clause-written
returns-clause-written g c = rw (← c.quote.view_is) (quote_written (state g.S.Store c.args.conn.now)
    (state g.S.Store c.put_row.new.conn) c.put_row.result c.args.registration (record {
      slot = c.quote.inside.slot;
      month = c.quote.inside.month;
      mark = c.quote.inside.mark;
      receipt = c.quote.inside.receipt;
    }) _ _ _ (λ id. rw (
      c.collector_number-collector.ensures.range,
      c.slot_number-slot.ensures.range,
      c.month_number-month.ensures,
      c.mark_value-value.ensures,
      c.in_ok-receipt.ensures.range,
    ) refl) (rw (
      c.params-to_sql.ensures,
      c.params-to_sql-2.ensures,
      c.params-to_sql-3.ensures,
      c.params-to_sql-4.ensures,
      c.params-to_sql-5.ensures,
      c.params-to_sql-6.ensures,
      c.collector_number-collector.ensures.value,
      c.slot_number-slot.ensures.value,
      c.mark_text-word.ensures,
      c.in_ok-receipt.ensures.value,
    ) at c.put_row.ensures))
