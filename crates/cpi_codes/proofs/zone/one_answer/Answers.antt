use Rattle.cpi_codes.proofs.OneAnswer.{one_answer}
use Rattle.cpi_codes.proofs.zone.one_answer.Goals as goal

pub returns : goal.returns
returns c = one_answer
