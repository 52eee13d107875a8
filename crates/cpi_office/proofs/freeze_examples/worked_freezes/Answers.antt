use Rattle.std.proofs.Common.{refl}
use Rattle.std.specs.Fmt.{digits}
use Rattle.cpi_office.proofs.freeze_examples.worked_freezes.Goals as goal

pub returns-clause-one_month : goal.returns-clause-one_month
unfolding digits
returns-clause-one_month c = refl

pub returns-clause-freeze_refusals : goal.returns-clause-freeze_refusals
returns-clause-freeze_refusals c = refl

pub returns-clause-without_reference : goal.returns-clause-without_reference
unfolding digits
returns-clause-without_reference c = refl

pub returns-clause-without_rows : goal.returns-clause-without_rows
returns-clause-without_rows c = refl

pub returns-clause-frozen_rows : goal.returns-clause-frozen_rows
unfolding digits
returns-clause-frozen_rows c = refl

pub returns-clause-reopened : goal.returns-clause-reopened
unfolding digits
returns-clause-reopened c = refl

pub returns-clause-cached_frozen : goal.returns-clause-cached_frozen
returns-clause-cached_frozen c = refl

pub returns-clause-backwards : goal.returns-clause-backwards
returns-clause-backwards c = refl
