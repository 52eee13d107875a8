use Rattle.cpi_office.proofs.Causes.{causes_are_all}
use Rattle.cpi_office.proofs.laws.causes_are_all.Goals as goal

pub returns : goal.returns
returns g = causes_are_all
