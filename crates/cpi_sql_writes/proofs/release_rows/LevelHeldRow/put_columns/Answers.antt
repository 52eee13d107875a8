use Rattle.std.specs.String.{string_bytes}
use Rattle.cpi_sql_rows.specs.Lists.{level_in_row}
use Rattle.cpi_sql_rows.specs.Tables.{table_of_levels_2}
use Rattle.cpi_sql_writes.specs.ReleaseSteps.{IsReleaseNumber}
use Rattle.cpi_sql_writes.proofs.ManyRows.{columns_put}
use Rattle.cpi_sql_writes.proofs.ReleaseSteps.{bound_annual, level_columns}
use Rattle.cpi_sql_writes.proofs.release_rows.LevelHeldRow.put_columns.Goals as goal

pub returns : goal.returns
returns c =
    let numbers = c.args.numbers in
    columns_put table_of_levels_2 level_in_row (IsReleaseNumber numbers.month numbers.revision) c.args.self.now
    c.args.all.now.items _
    c.extend_from_slice.new.self.items c.extend_from_slice.result c.map_err.result c.extend_from_slice.ensures.items
    c.map_err.ensures.variant
    (rw (
      c.to_sql.ensures,
      c.to_sql-2.ensures,
      c.to_sql-3.ensures,
      c.to_sql-4.ensures,
      c.to_sql-5.ensures,
      c.in_ok-weight.ensures.value,
      c.index_value.ensures.value,
      c.chained_value.ensures.value,
      c.month_change.ensures,
      c.year_change.ensures,
      bound_annual c.args.self.now.year_change,
    ) (level_columns numbers.month numbers.revision (string_bytes c.args.code.now) c.name_text.result.now
    c.flag_number.result c.args.self.now c.requires
    (rw c.name_text.ensures.value c.name_text.ensures.name) c.in_ok-weight.ensures.range c.index_value.ensures.range
    c.chained_value.ensures.range c.flag_number.ensures))
