use Rattle.std.proofs.Common.{◌≡◌, take}
use Rattle.cpi_store.proofs.taken_slots.TakenSlots.of.Given as goal

abbrev pub invariant-loop-over : goal.invariant-loop-over
invariant-loop-over l = l.taken ≡ take l.over-index l.rows
