-- Records change only rows that their requests asked for.
use Rattle.cpi_release.specs.State.{State}
use Rattle.cpi_store.specs.Office.{Office}
use Rattle.cpi_office.proofs.OneChange.{run_rows}
use Rattle.cpi_wire.specs.Laws.{RecordsChangeRows, requests_of_records, replies_of}
use Rattle.cpi_wire.proofs.Runs.{records_are_a_run}

pub records_change_rows : {B : Type 0} (state : B → State Office) → RecordsChangeRows state
records_change_rows state zone old new rows replies a clean s =
    run_rows (state old).held (state new).held (requests_of_records zone rows) (replies_of zone rows replies) s
    ((records_are_a_run state zone old new rows replies a).run clean s)
