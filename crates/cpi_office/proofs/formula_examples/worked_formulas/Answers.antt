use Rattle.std.proofs.Common.{refl}
use Rattle.cpi_office.proofs.formula_examples.worked_formulas.Goals as goal

pub returns-clause-samples : goal.returns-clause-samples
returns-clause-samples c = (refl, refl, refl, refl, refl, refl, refl, refl, refl)

pub returns-clause-changes : goal.returns-clause-changes
returns-clause-changes c = (refl, refl, refl, refl)

pub returns-clause-weights : goal.returns-clause-weights
returns-clause-weights c = (refl, refl)

pub returns-clause-links : goal.returns-clause-links
returns-clause-links c = (refl, refl, refl, refl, refl, refl, refl)

pub returns-clause-bases : goal.returns-clause-bases
returns-clause-bases c = (refl, refl, refl, refl, refl, refl)

pub returns-clause-tables : goal.returns-clause-tables
returns-clause-tables c = (refl, refl)
