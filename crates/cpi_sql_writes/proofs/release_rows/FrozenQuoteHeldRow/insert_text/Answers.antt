use Rattle.std.proofs.Common.{refl}
use Rattle.cpi_sql_rows.specs.Tables.{table_of_frozen_2}
use Rattle.cpi_sql_rows.proofs.Texts.{add_frozen_is, add_frozen_quotes_is}
use Rattle.cpi_sql_writes.proofs.ManyRows.{many_inserted, one_inserted}
use Rattle.cpi_sql_writes.proofs.release_rows.FrozenQuoteHeldRow.insert_text.Goals as goal

pub returns-then-many : goal.returns-then-many
returns-then-many c =
    many_inserted table_of_frozen_2 16 refl _ _ add_frozen_is add_frozen_quotes_is c.args.many c.if-many.true

pub returns-else-many : goal.returns-else-many
returns-else-many c =
    one_inserted table_of_frozen_2 16 refl _ _ add_frozen_is add_frozen_quotes_is c.args.many c.if-many.false
