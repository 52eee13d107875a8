use Rattle.std.proofs.Common.{refl}
use Rattle.std.specs.Fmt.{digits}
use Rattle.csv.specs.Writing.{fields_text, escaped, is_blank}
use Rattle.cpi_release.proofs.examples.worked_histories.Goals as goal

pub returns-clause-linking : goal.returns-clause-linking
returns-clause-linking c = refl

pub returns-clause-returning : goal.returns-clause-returning
returns-clause-returning c = (refl, refl)

pub returns-clause-moved_item : goal.returns-clause-moved_item
returns-clause-moved_item c = (refl, refl)

pub returns-clause-unmatched : goal.returns-clause-unmatched
returns-clause-unmatched c = (refl, refl, refl, refl)

pub returns-clause-first_fault : goal.returns-clause-first_fault
returns-clause-first_fault c = (refl, refl, refl, refl, refl)

pub returns-clause-limits : goal.returns-clause-limits
returns-clause-limits c = (refl, refl, refl)

pub returns-clause-least_limits : goal.returns-clause-least_limits
returns-clause-least_limits c = (refl, refl, refl)

pub returns-clause-two_years : goal.returns-clause-two_years
unfolding digits fields_text escaped is_blank
returns-clause-two_years c = (refl, refl, refl, refl)

pub returns-clause-carried_december : goal.returns-clause-carried_december
unfolding digits fields_text escaped is_blank
returns-clause-carried_december c = (refl, refl)

pub returns-clause-moved_weights : goal.returns-clause-moved_weights
returns-clause-moved_weights c = (refl, refl, refl, refl)

pub returns-clause-weight_faults : goal.returns-clause-weight_faults
returns-clause-weight_faults c = (refl, refl, refl, refl, refl, refl)
