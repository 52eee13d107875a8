use Rattle.cpi_codes.proofs.Picked.{picks_as_stated}
use Rattle.cpi_codes.proofs.zone.picks_as_stated.Goals as goal

pub returns : goal.returns
returns c = picks_as_stated
