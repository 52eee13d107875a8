use Rattle.std.proofs.Common.{◌≡◌, take}
use Rattle.std.specs.Prelude.{filter}
use Rattle.cpi_survey.specs.Slots.{quotes_of_slots}
use Rattle.cpi_survey.specs.Within.{is_within}
use Rattle.cpi_survey.proofs.within.quotes_within.Given as goal

abbrev pub invariant-loop-group : goal.invariant-loop-group
invariant-loop-group l = l.found.items ≡ filter (is_within l.first l.last)
    (quotes_of_slots (take l.group-index l.slots))
