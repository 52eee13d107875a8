use Rattle.std.proofs.Common.{refl}
use Rattle.cpi_sql_rows.specs.Tables.{table_of_levels_2}
use Rattle.cpi_sql_rows.proofs.Texts.{add_level_is, add_levels_is}
use Rattle.cpi_sql_writes.proofs.ManyRows.{many_inserted, one_inserted}
use Rattle.cpi_sql_writes.proofs.release_rows.LevelHeldRow.insert_text.Goals as goal

pub returns-then-many : goal.returns-then-many
returns-then-many c =
    many_inserted table_of_levels_2 18 refl _ _ add_level_is add_levels_is c.args.many c.if-many.true

pub returns-else-many : goal.returns-else-many
returns-else-many c =
    one_inserted table_of_levels_2 18 refl _ _ add_level_is add_levels_is c.args.many c.if-many.false
