use Rattle.std.proofs.Common.{refl}
use Rattle.cpi_sql_rows.specs.Tables.{table_of_carried_2}
use Rattle.cpi_sql_rows.proofs.Texts.{add_carried_is, add_carried_prices_is}
use Rattle.cpi_sql_writes.proofs.ManyRows.{many_inserted, one_inserted}
use Rattle.cpi_sql_writes.proofs.release_rows.CarriedPriceHeldRow.insert_text.Goals as goal

pub returns-then-many : goal.returns-then-many
returns-then-many c =
    many_inserted table_of_carried_2 17 refl _ _ add_carried_is add_carried_prices_is c.args.many c.if-many.true

pub returns-else-many : goal.returns-else-many
returns-else-many c =
    one_inserted table_of_carried_2 17 refl _ _ add_carried_is add_carried_prices_is c.args.many c.if-many.false
