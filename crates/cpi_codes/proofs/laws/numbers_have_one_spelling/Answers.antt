use Rattle.cpi_codes.proofs.NumberTexts.{one_spelling}
use Rattle.cpi_codes.proofs.laws.numbers_have_one_spelling.Goals as goal

pub returns : goal.returns
returns c = one_spelling
