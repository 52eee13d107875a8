use Rattle.std.proofs.Common.{◌∙◌}
use Rattle.cpi_office.proofs.Judged.{last_is}
use Rattle.cpi_office.proofs.months.last.Goals as goal

pub returns : goal.returns
returns c = c.last.ensures.value ∙ last_is c.args.frozen.now
