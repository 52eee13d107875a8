use Rattle.std.proofs.Common.{refl}
use Rattle.std.specs.Fmt.{digits}
use Rattle.cpi_office.proofs.handover_examples.worked_handovers.Goals as goal

pub returns-clause-handed_over : goal.returns-clause-handed_over
returns-clause-handed_over c = refl

pub returns-clause-copied_once : goal.returns-clause-copied_once
returns-clause-copied_once c = refl

pub returns-clause-handed_on : goal.returns-clause-handed_on
returns-clause-handed_on c = refl

pub returns-clause-refusals : goal.returns-clause-refusals
returns-clause-refusals c = refl

pub returns-clause-later_quotes : goal.returns-clause-later_quotes
returns-clause-later_quotes c = refl

pub returns-clause-cached_months : goal.returns-clause-cached_months
returns-clause-cached_months c = refl

pub returns-clause-not_assigned : goal.returns-clause-not_assigned
returns-clause-not_assigned c = refl

pub returns-clause-stays_in_sample : goal.returns-clause-stays_in_sample
unfolding digits
returns-clause-stays_in_sample c = refl

pub returns-clause-two_years : goal.returns-clause-two_years
unfolding digits
returns-clause-two_years c = refl
