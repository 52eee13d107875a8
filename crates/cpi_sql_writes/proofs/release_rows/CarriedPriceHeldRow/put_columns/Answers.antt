use Rattle.std.proofs.Common.{Some, ap, ◌∙◌}
use Rattle.std.specs.String.{string_bytes}
use Rattle.sqlite.specs.Values.{bound}
use Rattle.cpi_sql_rows.specs.Lists.{carried_in_row}
use Rattle.cpi_sql_rows.specs.Tables.{table_of_carried_2}
use Rattle.cpi_sql_writes.specs.ReleaseSteps.{IsReleaseNumber}
use Rattle.cpi_sql_writes.proofs.ManyRows.{parts_put}
use Rattle.cpi_sql_writes.proofs.ReleaseSteps.{carried_columns}
use Rattle.cpi_sql_writes.proofs.release_rows.CarriedPriceHeldRow.put_columns.Goals as goal

pub returns : goal.returns
returns c =
    let numbers = c.args.numbers in
    parts_put table_of_carried_2 carried_in_row (IsReleaseNumber numbers.month numbers.revision) c.args.self.now
    c.args.all.now.items c.series_columns-first.result c.extend_from_slice.new.self.items _
    c.extend_from_slice-2.new.self.items c.extend_from_slice.result c.extend_from_slice-2.result c.map_err-2.result
    c.extend_from_slice.ensures.items c.in_ok-map_err.ensures.variant c.extend_from_slice-2.ensures.items
    c.map_err-2.ensures.variant
    (rw (
      c.to_sql.ensures,
      c.to_sql-2.ensures,
      c.to_sql-3.ensures,
      c.ticks_value.ensures.value,
      c.ticks_value-2.ensures.value,
    ) (carried_columns numbers.month numbers.revision (bound c.series_columns-first.result)
    (string_bytes c.args.item.now) c.ticks.result c.knum.result c.denominator.result
    c.flag_number.result c.flag_number-2.result c.args.self.now
    (rw (c.series.ensures, c.last_month.ensures) at c.series_columns-first.ensures) c.requires
    (c.ticks_value.ensures.range ∙ ap Some c.ticks.ensures.value)
    (c.ticks_value-2.ensures.range ∙ ap Some c.knum.ensures.value) c.denominator.ensures
    (c.flag_number.ensures ∙ ap Some c.was_observed.ensures)
    (c.flag_number-2.ensures ∙ ap Some c.was_imputed.ensures)))
