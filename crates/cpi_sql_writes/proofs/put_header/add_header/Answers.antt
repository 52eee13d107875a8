use Rattle.std.proofs.Common.{◌∙◌, ap}
use Rattle.sqlite.specs.Held.{state}
use Rattle.cpi_sql_rows.specs.Lists.{spelled_codes}
use Rattle.cpi_sql_rows.specs.ReleaseRows.{carry_text}
use Rattle.cpi_sql_rows.proofs.ReleaseRows.{carry_read}
use Rattle.cpi_sql_writes.specs.ReleaseSteps.{header_of}
use Rattle.cpi_sql_writes.proofs.ReleaseSteps.{header_added}
use Rattle.cpi_sql_writes.proofs.put_header.add_header.Goals as goal

pub returns-clause-added : goal.returns-clause-added
returns-clause-added g c =
    header_added (state g.S.Store c.args.tx.now.conn.now) (state g.S.Store c.run_inside.new.tx.conn.now)
    c.run_inside.result c.args.numbers.month c.args.numbers.revision c.as_str.result.now
    (header_of c.args.release.now) c.moment_value-frozen_at.ensures.range c.moment_value-publishes.ensures.range
    (ap spelled_codes (c.as_str.ensures.value ∙ c.in_ok-carry.ensures ∙ ap carry_text c.as_slice.ensures)
    ∙ carry_read c.args.release.now.carry)
    (rw (
      c.params-to_sql.ensures,
      c.params-to_sql-2.ensures,
      c.params-to_sql-3.ensures,
      c.params-to_sql-4.ensures,
      c.params-to_sql-5.ensures,
      c.moment_value-frozen_at.ensures.value,
      c.moment_value-publishes.ensures.value,
    ) at c.run_inside.ensures.ran)
