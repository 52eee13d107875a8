use Rattle.cpi_sql_rows.proofs.FoundTables.{clean_memory}
use Rattle.cpi_sql_open.proofs.inspect.model.Goals as goal

pub returns : goal.returns
returns c = c.in_ok-make_unnumbered.ensures (clean_memory c.make_unnumbered.new.conn.store) c.in_ok-conn.ensures.empty.2
