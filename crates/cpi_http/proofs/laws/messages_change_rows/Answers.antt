use Rattle.cpi_http.proofs.ChangedRows.{messages_change_rows}
use Rattle.cpi_http.proofs.laws.messages_change_rows.Goals as goal

pub returns : goal.returns
returns g c = messages_change_rows g.B.Book.state
