use Rattle.cpi_codes.proofs.MonthTexts.{month_written}
use Rattle.cpi_codes.proofs.months.MonthDisplay.fmt.Goals as goal

pub returns-clause-writes : goal.returns-clause-writes
returns-clause-writes g c = rw (
  c.laid_out.ensures,
  month_written c.args.self.now c.year.result c.month.result c.year.ensures.value c.month.ensures.value,
) at
    c.write.ensures.writes
