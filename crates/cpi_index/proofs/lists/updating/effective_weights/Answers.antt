use Rattle.std.proofs.Common.{ap, sym, ◌∙◌}
use Rattle.std.specs.Prelude.{is_some, IsTrue}
use Rattle.cpi_codes.specs.CodeOrder.{code_cmp}
use Rattle.cpi_rows.proofs.Rising.{never_falters}
use Rattle.cpi_index.proofs.lists.updating.effective_weights.Goals as goal
use Rattle.cpi_index.proofs.lists.updating.effective_weights.Goals.{then-not-are_in_order-via-then-not-are_in_order}
use Rattle.cpi_index.proofs.lists.updating.effective_weights.Goals.{then-not-are_in_order-via-else-not-are_in_order+then-not-are_in_order-2}

pub returns-then-not-are_in_order-clause-weights : goal.returns-then-not-are_in_order-clause-weights
returns-then-not-are_in_order-clause-weights c =
    let some : IsTrue (is_some c.args.plan.now.reference) = ap is_some (sym c.reference.ensures.value)
    ∙ c.if-is_none.ensures in
    λ order. elim c.then-not-are_in_order.branch [
      | then-not-are_in_order-via-then-not-are_in_order w ↦ absurd
          (never_falters code_cmp (λ l. l.code) c.args.link.now (order some).0 w.if-not-are_in_order.ensures)
      | then-not-are_in_order-via-else-not-are_in_order+then-not-are_in_order-2 w ↦ absurd
          (never_falters code_cmp (λ l. l.code) c.args.reference.now (order some).1 w.if-not-are_in_order-2.ensures)
    ]
