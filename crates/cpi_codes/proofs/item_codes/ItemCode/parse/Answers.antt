use Rattle.std.proofs.Common.{sym}
use Rattle.cpi_codes.proofs.Bytes.{code_of_text}
use Rattle.cpi_codes.proofs.item_codes.ItemCode.parse.Goals as goal

pub invariant_of-result : goal.invariant_of-result
invariant_of-result c = (
  c.args.text.now,
  rw c.number_of_bytes.ensures
      (code_of_text c.args.text.now (sym c.if-not-is_item_text.ensures)),
)
