use Rattle.std.proofs.Common.{◌≡◌, ◌++◌, take}
use Rattle.std.specs.Prelude.{filter}
use Rattle.cpi_survey.specs.Within.{is_within}
use Rattle.cpi_survey.proofs.within.push_within.Given as goal

abbrev pub invariant-loop-quote : goal.invariant-loop-quote
invariant-loop-quote l = l.found.items ≡ l.initial.found.items
    ++ filter (is_within l.first l.last) (take l.quote-index l.quotes)
