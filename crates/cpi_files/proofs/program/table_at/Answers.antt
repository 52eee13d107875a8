use Rattle.std.proofs.Common.{inr, rules}
use Rattle.cpi_files.proofs.program.table_at.Goals as goal

-- the file isn't missing
pub returns-clause-some : goal.returns-clause-some
returns-clause-some g c =
    rw c.in-Ok.is (inr (c.if-is_missing.ensures.no (search rules), c.print_at.ensures.printed, c.print_at.ensures.input))
