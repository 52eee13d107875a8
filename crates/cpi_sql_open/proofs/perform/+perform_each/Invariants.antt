use Rattle.std.proofs.Common.{length}
use Rattle.cpi_sql_open.proofs.perform.+perform_each.Given as goal

abbrev pub decreases-perform_each : goal.decreases-perform_each
decreases-perform_each g l = length l.texts.now
