-- Messages change only rows that their requests asked for.
use Rattle.cpi_release.specs.State.{State}
use Rattle.cpi_store.specs.Office.{Office}
use Rattle.cpi_office.proofs.OneChange.{run_rows}
use Rattle.cpi_wire.specs.Laws.{requests_of_asks, replies_of_asks}
use Rattle.cpi_http.specs.Laws.{MessagesChangeRows}
use Rattle.cpi_http.proofs.Alike.{messages_are_a_run}

pub messages_change_rows : {B : Type 0} (state : B → State Office) → MessagesChangeRows state
messages_change_rows state old new asks answers a clean s =
    run_rows (state old).held (state new).held (requests_of_asks asks) (replies_of_asks asks answers) s
    ((messages_are_a_run state old new asks answers a).run clean s)
