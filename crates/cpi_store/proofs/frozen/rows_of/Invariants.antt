use Rattle.std.proofs.Common.{◌≡◌, take}
use Rattle.cpi_store.specs.Holders.{rows_of_holders}
use Rattle.cpi_store.proofs.frozen.rows_of.Given as goal

abbrev pub invariant-loop-holder : goal.invariant-loop-holder
invariant-loop-holder l = l.found.items ≡ rows_of_holders l.month l.ends l.taken (take l.holder-index l.holders)
