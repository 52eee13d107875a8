use Rattle.std.proofs.Common.{take, ap, ◌∙◌}
use Rattle.std.proofs.lemmas.List.{take_rest}
use Rattle.cpi_survey.specs.Quote.{quote_cmp, quote_key}
use Rattle.cpi_store.proofs.Loaded.{own_in_order}
use Rattle.cpi_store.proofs.runs.quotes_from.Goals as goal

pub returns-then-ne-clause-order : goal.returns-then-ne-clause-order
returns-then-ne-clause-order c =
    let rows = c.args.rows.now in
    own_in_order quote_cmp quote_key c.args.collector rows c.args.from c.rows.stored-index c.rows.own.items
    c.requires.order (c.rows.invariant ∙ ap (take c.rows.stored-index) (take_rest rows c.args.from))

pub returns-clause-order : goal.returns-clause-order
returns-clause-order c =
    let rows = c.args.rows.now in
    own_in_order quote_cmp quote_key c.args.collector rows c.args.from c.rows.stored-index c.rows.own.items
    c.requires.order (c.rows.invariant ∙ ap (take c.rows.stored-index) (take_rest rows c.args.from))
