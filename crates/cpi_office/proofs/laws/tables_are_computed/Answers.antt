use Rattle.cpi_store.proofs.History.{releases_computed, releases_sound, sources_fit}
use Rattle.cpi_store.proofs.Stored.{frozen_are_stored}
use Rattle.cpi_office.proofs.ComputedTables.{tables_are_told}
use Rattle.cpi_office.proofs.FreezePreconditions.{judged_meets_preconditions}
use Rattle.cpi_office.proofs.RebuiltProjections.{releases_stay}
use Rattle.cpi_office.proofs.laws.tables_are_computed.Goals as goal

pub returns-clause-computed : goal.returns-clause-computed
returns-clause-computed c = releases_computed

pub returns-clause-answers : goal.returns-clause-answers
returns-clause-answers c = tables_are_told

pub returns-clause-history : goal.returns-clause-history
returns-clause-history c = releases_sound

pub returns-clause-stored : goal.returns-clause-stored
returns-clause-stored c = frozen_are_stored

pub returns-clause-releases : goal.returns-clause-releases
returns-clause-releases c = releases_stay

pub returns-clause-fit : goal.returns-clause-fit
returns-clause-fit c = sources_fit

pub returns-clause-preconditions : goal.returns-clause-preconditions
returns-clause-preconditions c = judged_meets_preconditions
