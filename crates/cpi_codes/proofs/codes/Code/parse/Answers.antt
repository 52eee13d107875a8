use Rattle.std.proofs.Common.{ap, sym, ◌∙◌, Ok}
use Rattle.cpi_codes.proofs.CodeRead.{parts_of, spells, same_text_is}
use Rattle.cpi_codes.proofs.codes.Code.parse.Goals as goal

pub returns-in_default-clause-every_code : goal.returns-in_default-clause-every_code
returns-in_default-clause-every_code c = λ d e. absurd (c.in_default.ensures (parts_of d) (spells d c.args.bytes.now e))

pub returns-clause-every_code : goal.returns-clause-every_code
returns-clause-every_code c = λ d e. ap (λ x. Ok x) (same_text_is _ d (c.in-Some.ensures.2 ∙ sym e))
