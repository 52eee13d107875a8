use Rattle.cpi_codes.proofs.CodesAbove.{in_path}
use Rattle.cpi_codes.proofs.code_laws.nodes_are_on_the_path.Goals as goal

pub returns : goal.returns
returns c = in_path
