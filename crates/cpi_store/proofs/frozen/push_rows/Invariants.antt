use Rattle.std.proofs.Common.{◌≡◌, ◌++◌, take}
use Rattle.std.specs.List.{filter_map}
use Rattle.cpi_store.specs.Holders.{own_row}
use Rattle.cpi_store.proofs.frozen.push_rows.Given as goal

abbrev pub invariant-loop-assigned : goal.invariant-loop-assigned
invariant-loop-assigned l =
    l.found.items ≡ l.initial.found.items ++ filter_map (own_row l.month l.ends l.taken l.holder)
    (take l.assigned-index l.holder.own.assignments)
