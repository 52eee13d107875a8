use Rattle.cpi_codes.proofs.NumberTexts.{read_again}
use Rattle.cpi_codes.proofs.laws.numbers_are_read_again.Goals as goal

pub returns : goal.returns
returns c = read_again
