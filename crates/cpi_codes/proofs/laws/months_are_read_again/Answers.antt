use Rattle.cpi_codes.proofs.MonthTexts.{read_again}
use Rattle.cpi_codes.proofs.laws.months_are_read_again.Goals as goal

pub returns : goal.returns
returns c = read_again
