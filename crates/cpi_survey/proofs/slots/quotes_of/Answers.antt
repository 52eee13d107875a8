use Rattle.std.proofs.Common.{sym, ◌∙◌}
use Rattle.cpi_rows.proofs.Places.{none_in_order}
use Rattle.cpi_survey.specs.Quote.{quote_cmp, quote_key}
use Rattle.cpi_survey.proofs.BySlot.{order_found, quotes_found, quotes_missing}
use Rattle.cpi_survey.proofs.slots.quotes_of.Goals as goal

pub returns-in-Some-clause-quotes : goal.returns-in-Some-clause-quotes
returns-in-Some-clause-quotes c = c.deref.ensures.value
    ∙ quotes_found c.args.slot c.args.slots.now c.in-Some.found.now c.requires (sym c.in-Some.ensures)

pub returns-in-Some-clause-order : goal.returns-in-Some-clause-order
returns-in-Some-clause-order c = rw c.deref.ensures.value
    (order_found c.args.slot c.args.slots.now c.in-Some.found.now c.requires (sym c.in-Some.ensures))

pub returns-in-None-clause-quotes : goal.returns-in-None-clause-quotes
returns-in-None-clause-quotes c = quotes_missing c.args.slot c.args.slots.now c.requires (sym c.in-None.ensures)

pub returns-in-None-clause-order : goal.returns-in-None-clause-order
returns-in-None-clause-order c = none_in_order quote_cmp quote_key
