use Rattle.std.specs.String.{string_bytes}
use Rattle.cpi_sql_rows.specs.Lists.{place_in_row}
use Rattle.cpi_sql_rows.specs.Tables.{table_of_plan_items}
use Rattle.cpi_sql_writes.specs.PlanSteps.{IsYearNumber}
use Rattle.cpi_sql_writes.proofs.ManyRows.{columns_put}
use Rattle.cpi_sql_writes.proofs.PlanSteps.{place_columns}
use Rattle.cpi_sql_writes.proofs.plan_rows.PlaceHeldRow.put_columns.Goals as goal

pub returns : goal.returns
returns c =
    columns_put table_of_plan_items place_in_row (IsYearNumber c.args.year) c.args.self.now c.args.all.now.items _
    c.extend_from_slice.new.self.items c.extend_from_slice.result c.map_err.result c.extend_from_slice.ensures.items
    c.map_err.ensures.variant
    (rw (
      c.to_sql.ensures,
      c.to_sql-2.ensures,
      c.to_sql-3.ensures,
    ) (place_columns c.args.year (string_bytes c.args.texts.now.item)
    (string_bytes c.args.texts.now.aggregate) c.args.self.now c.requires.0 c.requires.1))
