use Rattle.std.specs.String.{string_bytes}
use Rattle.cpi_sql_rows.specs.Lists.{node_in}
use Rattle.cpi_sql_rows.specs.Tables.{table_of_nodes}
use Rattle.cpi_sql_writes.specs.PlanSteps.{IsYearNumber}
use Rattle.cpi_sql_writes.proofs.ManyRows.{columns_put}
use Rattle.cpi_sql_writes.proofs.PlanSteps.{node_columns}
use Rattle.cpi_sql_writes.proofs.plan_rows.NodeHeldRow.put_columns.Goals as goal

pub returns : goal.returns
returns c =
    columns_put table_of_nodes node_in (IsYearNumber c.args.year) c.args.self.now c.args.all.now.items _
    c.extend_from_slice.new.self.items c.extend_from_slice.result c.map_err.result c.extend_from_slice.ensures.items
    c.map_err.ensures.variant
    (rw (
      c.to_sql.ensures,
      c.to_sql-2.ensures,
      c.to_sql-3.ensures,
      c.to_sql-4.ensures,
    ) (node_columns c.args.year (string_bytes c.args.code.now) c.name_text.result.now c.args.self.now
    c.requires (rw c.name_text.ensures.value c.name_text.ensures.name)))
