use Rattle.std.proofs.Common.{ap}
use Rattle.std.proofs.lemmas.Result.{on_ok_weaker}
use Rattle.cpi_survey.specs.declared.assignment.Assigned.{Assigned}
use Rattle.cpi_survey.specs.Slots.{quotes_of_slots}
use Rattle.std.specs.Prelude.{List}
use Rattle.cpi_survey.proofs.own.Own.put_assignment.Goals as goal

pub returns-clause-ok : goal.returns-clause-ok
returns-clause-ok c =
    rw (← c.self.view_is)
    (on_ok_weaker c.put_row.result (λ done. ap (λ (xs : List Assigned).
    record { assignments = xs; quotes = quotes_of_slots c.self.inside.slots.items }) done) c.put_row.ensures.ok)

pub returns-clause-replaced : goal.returns-clause-replaced
returns-clause-replaced c = rw (← c.self.view_is) c.put_row.ensures.replaced
