use Rattle.std.proofs.Common.{◌≡◌, ◌++◌}
use Rattle.cpi_survey.proofs.public.copy_items.Given as goal

abbrev pub invariant-loop-item : goal.invariant-loop-item
invariant-loop-item l = l.copies.items ++ l.item-iterator ≡ l.items
