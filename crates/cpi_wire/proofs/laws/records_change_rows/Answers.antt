use Rattle.cpi_wire.proofs.ChangedRows.{records_change_rows}
use Rattle.cpi_wire.proofs.laws.records_change_rows.Goals as goal

pub returns : goal.returns
returns g c = records_change_rows g.B.Book.state
