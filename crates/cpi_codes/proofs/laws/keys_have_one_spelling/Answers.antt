use Rattle.cpi_codes.proofs.KeyTexts.{one_spelling}
use Rattle.cpi_codes.proofs.laws.keys_have_one_spelling.Goals as goal

pub returns : goal.returns
returns c = one_spelling
