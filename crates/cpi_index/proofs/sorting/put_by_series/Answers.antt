use Rattle.cpi_index.proofs.BySeries.{sorted_is}
use Rattle.cpi_index.proofs.sorting.put_by_series.Goals as goal

pub returns-clause-list : goal.returns-clause-list
returns-clause-list c = λ all h p. sorted_is c.args.carried.now.items c.put_in_order.new.carried.items all
    c.put_in_order.result c.put_in_order.ensures.moved c.put_in_order.ensures.order h p
