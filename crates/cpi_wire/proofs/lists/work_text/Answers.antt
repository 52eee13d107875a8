use Rattle.std.proofs.Common.{ap, ◌∙◌, ◌++◌, codes}
use Rattle.cpi_wire.specs.Line.{work_row_data}
use Rattle.cpi_wire.proofs.Floats.{work_none}
use Rattle.cpi_wire.proofs.Joined.{row_more, all_rows, work_list}
use Rattle.cpi_wire.proofs.lists.work_text.Goals as goal

pub loop-row-preserved : goal.loop-row-preserved
loop-row-preserved c =
    let added = (rw c.in_ok-value.ensures at c.in_ok-add_row.ensures) (work_none c.row-item.result) in
    row_more work_row_data (codes "{\"work\":[") _ _ _ c.args.rows.now c.loop-row.row-index c.row-item.result c.loop-row-test.true
    c.row-item.is c.loop-row.invariant added

pub returns : goal.returns
returns c =
    let all = all_rows work_row_data (codes "{\"work\":[") _ _ c.args.rows.now c.loop-row.row-index c.loop-row-test.false c.loop-row.invariant in
    c.in_ok-end_list.ensures ∙ ap (λ ys. ys ++ codes "]}") all ∙ work_list _
