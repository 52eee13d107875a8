use Rattle.std.proofs.Common.{refl}
use Rattle.cpi_sql_rows.specs.Tables.{table_of_nodes}
use Rattle.cpi_sql_rows.proofs.Texts.{add_node_is, add_nodes_is}
use Rattle.cpi_sql_writes.proofs.ManyRows.{many_inserted, one_inserted}
use Rattle.cpi_sql_writes.proofs.plan_rows.NodeHeldRow.insert_text.Goals as goal

pub returns-then-many : goal.returns-then-many
returns-then-many c =
    many_inserted table_of_nodes 4 refl _ _ add_node_is add_nodes_is c.args.many c.if-many.true

pub returns-else-many : goal.returns-else-many
returns-else-many c =
    one_inserted table_of_nodes 4 refl _ _ add_node_is add_nodes_is c.args.many c.if-many.false
