use Rattle.cpi_office.proofs.RebuiltProjections.{sound_runs, changes_are_enough}
use Rattle.cpi_office.proofs.laws.changes_are_enough.Goals as goal

pub returns-clause-sound : goal.returns-clause-sound
returns-clause-sound c = sound_runs

pub returns-clause-changes : goal.returns-clause-changes
returns-clause-changes c = changes_are_enough
