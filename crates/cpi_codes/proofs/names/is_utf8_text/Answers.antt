use Rattle.std.proofs.Common.{◌∙◌}
use Rattle.cpi_codes.proofs.NameTests.{ok_is_utf8}
use Rattle.cpi_codes.proofs.names.is_utf8_text.Goals as goal

pub returns : goal.returns
returns c = c.is_ok.ensures.value ∙ ok_is_utf8 _ _ _ _ c.from_utf8.ensures.cases
