use Rattle.std.proofs.Common.{refl, ap, ◌∙◌, ◌++◌, codes}
use Rattle.cpi_wire.specs.Line.{item_data}
use Rattle.cpi_wire.proofs.Joined.{row_more, all_rows, items_list}
use Rattle.cpi_wire.proofs.lists.items_text.Goals as goal

pub loop-item-preserved : goal.loop-item-preserved
loop-item-preserved c =
    let added = (rw c.in_ok-value.ensures at c.in_ok-add_row.ensures) refl in
    row_more item_data (codes "{\"items\":[") _ _ _ c.args.items.now c.loop-item.item-index c.item-item.result c.loop-item-test.true
    c.item-item.is c.loop-item.invariant added

pub returns : goal.returns
returns c =
    let all = all_rows item_data (codes "{\"items\":[") _ _ c.args.items.now c.loop-item.item-index c.loop-item-test.false c.loop-item.invariant in
    c.in_ok-end_list.ensures ∙ ap (λ ys. ys ++ codes "]}") all ∙ items_list _
