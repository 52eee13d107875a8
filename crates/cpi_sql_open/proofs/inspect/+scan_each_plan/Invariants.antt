use Rattle.std.proofs.Common.{length}
use Rattle.cpi_sql_open.proofs.inspect.+scan_each_plan.Given as goal

abbrev pub decreases-scan_each_plan : goal.decreases-scan_each_plan
decreases-scan_each_plan g l = length l.texts.now
