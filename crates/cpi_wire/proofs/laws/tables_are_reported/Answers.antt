use Rattle.cpi_wire.proofs.TableLines.{table_lines_are_computed, replays_report_tables}
use Rattle.cpi_wire.proofs.laws.tables_are_reported.Goals as goal

pub returns-clause-lines : goal.returns-clause-lines
returns-clause-lines g c = table_lines_are_computed g.B.Book.state

pub returns-clause-replies : goal.returns-clause-replies
returns-clause-replies g c = replays_report_tables g.B.Book.state
