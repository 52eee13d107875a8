use Rattle.std.proofs.Common.{subst, sym}
use Rattle.cpi_codes.specs.CodeOrder.{code_cmp}
use Rattle.cpi_rows.specs.Keyed.{IsInOrder}
use Rattle.cpi_rows.proofs.Rising.{never_falters}
use Rattle.cpi_index.proofs.Ordered.{none_in_order, table_rises}
use Rattle.cpi_index.proofs.lists.chaining.chain.Goals as goal

pub returns-in_default-clause-order : goal.returns-in_default-clause-order
returns-in_default-clause-order c = λ _. subst (IsInOrder code_cmp (λ l. l.code))
    (sym c.new.ensures.items) none_in_order

pub returns-then-not-are_in_order-clause-levels : goal.returns-then-not-are_in_order-clause-levels
returns-then-not-are_in_order-clause-levels c =
    λ order. absurd (never_falters code_cmp (λ l. l.code) c.args.december.now order c.if-not-are_in_order.ensures)

pub returns-clause-order : goal.returns-clause-order
returns-clause-order c = table_rises c.args.december.now c.args.within.now c.levels_of.result _ _ c.levels_of.ensures
