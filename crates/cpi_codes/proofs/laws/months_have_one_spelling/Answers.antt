use Rattle.cpi_codes.proofs.MonthSpelling.{one_spelling}
use Rattle.cpi_codes.proofs.laws.months_have_one_spelling.Goals as goal

pub returns : goal.returns
returns c = one_spelling
