use Rattle.cpi_codes.proofs.ItemOrder.{codes_in_order}
use Rattle.cpi_codes.proofs.laws.item_codes_are_in_byte_order.Goals as goal

pub returns : goal.returns
returns c = codes_in_order
