use Rattle.std.proofs.Common.{length}
use Rattle.cpi_sql_open.proofs.inspect.+scan_each.Given as goal

abbrev pub decreases-scan_each : goal.decreases-scan_each
decreases-scan_each g l = length l.texts.now
