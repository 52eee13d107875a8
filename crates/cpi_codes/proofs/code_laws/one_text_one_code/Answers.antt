use Rattle.cpi_codes.proofs.CodeRead.{same_text_is}
use Rattle.cpi_codes.proofs.code_laws.one_text_one_code.Goals as goal

pub returns : goal.returns
returns c = same_text_is
