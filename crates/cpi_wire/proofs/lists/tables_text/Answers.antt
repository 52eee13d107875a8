use Rattle.std.proofs.Common.{refl, ap, ◌∙◌, ◌++◌, codes}
use Rattle.cpi_wire.specs.Line.{frozen_month_data}
use Rattle.cpi_wire.proofs.Joined.{row_more, all_rows, tables_list}
use Rattle.cpi_wire.proofs.lists.tables_text.Goals as goal

pub loop-frozen_month-preserved : goal.loop-frozen_month-preserved
loop-frozen_month-preserved c =
    let added = (rw c.in_ok-value.ensures at c.in_ok-add_row.ensures) refl in
    row_more frozen_month_data (codes "{\"tables\":[") _ _ _ c.args.frozen_months.now c.loop-frozen_month.frozen_month-index c.frozen_month-item.result c.loop-frozen_month-test.true
    c.frozen_month-item.is c.loop-frozen_month.invariant added

pub returns : goal.returns
returns c =
    let all = all_rows frozen_month_data (codes "{\"tables\":[") _ _ c.args.frozen_months.now c.loop-frozen_month.frozen_month-index c.loop-frozen_month-test.false c.loop-frozen_month.invariant in
    c.in_ok-end_list.ensures ∙ ap (λ ys. ys ++ codes "]}") all ∙ tables_list _
