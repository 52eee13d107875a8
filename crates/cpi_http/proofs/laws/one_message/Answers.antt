use Rattle.cpi_http.proofs.Unique.{message_unique}
use Rattle.cpi_http.proofs.laws.one_message.Goals as goal

pub returns : goal.returns
returns c = message_unique
