use Rattle.cpi_codes.proofs.CodeAscii.{code_ascii}
use Rattle.cpi_codes.proofs.codes.Code.text.Goals as goal

pub text_of-requires : goal.text_of-requires
text_of-requires c = rw c.write_to-length.ensures.written (code_ascii c.args.self)
