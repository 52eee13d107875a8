use Rattle.cpi_codes.proofs.ItemOrder.{codes_are_one}
use Rattle.cpi_codes.proofs.laws.item_codes_have_one_spelling.Goals as goal

pub returns : goal.returns
returns c = codes_are_one
