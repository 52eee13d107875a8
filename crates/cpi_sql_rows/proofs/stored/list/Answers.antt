use Rattle.cpi_sql_rows.specs.Read.{AreRead}
use Rattle.std.proofs.Common.{sym, subst}
use Rattle.cpi_sql_rows.proofs.FoundTables.{on_any}
use Rattle.cpi_sql_rows.proofs.Whole.{if_ok}
use Rattle.cpi_sql_rows.proofs.stored.list.Goals as goal

pub returns-clause-read : goal.returns-clause-read
returns-clause-read g c = λ disk. let read = c.in_ok-read.ensures.read disk in
    if_ok c.in_order.result _ _ c.in_order.ensures.same
    (λ xs is. (read.0, read.1, subst (AreRead g.T.Stored.stands_for read.0) (sym is) read.2))

pub returns-clause-open : goal.returns-clause-open
returns-clause-open g c = λ disk. on_any c.in_order.result _ (c.in_ok-read.ensures.open disk)
