use Rattle.std.proofs.Common.{◌≡◌, take}
use Rattle.cpi_survey.specs.Slots.{AreBySlot, quotes_of_slots}
use Rattle.cpi_survey.proofs.slots.by_slot.Given as goal

abbrev pub invariant-loop-quote : goal.invariant-loop-quote
invariant-loop-quote l = record {
  slots : AreBySlot l.slots.items;
  quotes : quotes_of_slots l.slots.items ≡ take l.quote-index l.quotes;
}
