use Rattle.std.proofs.Common.{◌∙◌, sym}
use Rattle.cpi_codes.proofs.CodeBytes.{text_cmp}
use Rattle.cpi_codes.proofs.codes.Code.compare_text.Goals as goal

pub returns : goal.returns
returns c = c.cmp.ensures ∙ sym (text_cmp c.args.self c.args.other)
