use Rattle.std.proofs.Common.{◌∙◌}
use Rattle.cpi_codes.proofs.CodeOf.{reads_code}
use Rattle.cpi_wire.proofs.values.code_of.Goals as goal

pub returns : goal.returns
returns c = c.ok.ensures.value ∙ reads_code c.args.text.now c.parse.result c.parse.ensures.code
    c.parse.ensures.every_code
