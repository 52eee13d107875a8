use Rattle.std.proofs.Common.{refl}
use Rattle.cpi_sql_writes.proofs.SlotOffice.{copied_bound}
use Rattle.cpi_sql_writes.proofs.given_columns.GivenColumns.parameters.Goals as goal

pub returns : goal.returns
returns c = rw (
  c.to_sql.ensures,
  c.to_sql-2.ensures,
  c.to_sql-3.ensures,
  c.to_sql-4.ensures,
  c.to_sql-5.ensures,
  c.to_sql-6.ensures,
  c.to_sql-7.ensures,
  c.to_sql-8.ensures,
  c.to_sql-9.ensures,
  copied_bound c.args.self.now.copied,
) refl
