use Rattle.std.proofs.Common.{Some, ap, subst, ◌∙◌}
use Rattle.std.specs.String.{string_bytes}
use Rattle.sqlite.specs.Values.{bound}
use Rattle.cpi_index.specs.Frozen.{Frozen}
use Rattle.cpi_sql_rows.specs.Lists.{frozen_in}
use Rattle.cpi_sql_rows.specs.Tables.{table_of_frozen_2}
use Rattle.cpi_sql_writes.specs.ReleaseSteps.{AreSeriesColumns, IsReleaseNumber}
use Rattle.cpi_sql_writes.proofs.ManyRows.{parts_put}
use Rattle.cpi_sql_writes.proofs.ReleaseSteps.{frozen_columns}
use Rattle.cpi_sql_writes.proofs.release_rows.FrozenQuoteHeldRow.put_columns.Goals as goal

pub returns : goal.returns
returns c =
    let numbers = c.args.numbers in
    let item = string_bytes c.args.item.now in
    let first = bound c.series_columns-first.result in
    parts_put table_of_frozen_2 frozen_in (IsReleaseNumber numbers.month numbers.revision) c.args.self.now
    c.args.all.now.items c.series_columns-first.result c.extend_from_slice.new.self.items _
    c.extend_from_slice-2.new.self.items c.extend_from_slice.result c.extend_from_slice-2.result c.map_err-2.result
    c.extend_from_slice.ensures.items c.in_ok-map_err.ensures.variant c.extend_from_slice-2.ensures.items
    c.map_err-2.ensures.variant
    (rw (c.to_sql.ensures, c.to_sql-2.ensures) (frozen_columns numbers.month numbers.revision first item
    c.mark_text.result.now c.mark_value.result c.args.self.now
    (subst (λ (q : Frozen). AreSeriesColumns numbers.month numbers.revision q.series item q.last_month first)
    c.self.view_is c.series_columns-first.ensures) c.requires
    (rw c.mark_text.ensures (c.mark_value.ensures ∙ ap (λ (q : Frozen). Some q.mark) c.self.view_is))))
