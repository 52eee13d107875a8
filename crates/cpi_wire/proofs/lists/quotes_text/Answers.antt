use Rattle.std.proofs.Common.{ap, ◌∙◌, ◌++◌, codes}
use Rattle.cpi_wire.specs.Line.{quote_data}
use Rattle.cpi_wire.proofs.Floats.{quote_none}
use Rattle.cpi_wire.proofs.Joined.{row_more, all_rows, quotes_list}
use Rattle.cpi_wire.proofs.lists.quotes_text.Goals as goal

pub loop-quote-preserved : goal.loop-quote-preserved
loop-quote-preserved c =
    let added = (rw c.in_ok-value.ensures at c.in_ok-add_row.ensures) (quote_none c.quote-item.result) in
    row_more quote_data (codes "{\"quotes\":[") _ _ _ c.args.quotes.now c.loop-quote.quote-index c.quote-item.result c.loop-quote-test.true
    c.quote-item.is c.loop-quote.invariant added

pub returns : goal.returns
returns c =
    let all = all_rows quote_data (codes "{\"quotes\":[") _ _ c.args.quotes.now c.loop-quote.quote-index c.loop-quote-test.false c.loop-quote.invariant in
    c.in_ok-end_list.ensures ∙ ap (λ ys. ys ++ codes "]}") all ∙ quotes_list _
