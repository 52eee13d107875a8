use Rattle.std.proofs.Common.{◌≡◌, take}
use Rattle.std.specs.Prelude.{filter_map}
use Rattle.cpi_survey.specs.Work.{row_of_assignment}
use Rattle.cpi_survey.proofs.own.Own.work_rows.Given as goal

abbrev pub invariant-loop-assigned : goal.invariant-loop-assigned
invariant-loop-assigned l = l.rows.items ≡ filter_map (row_of_assignment l.month l.public l.self)
    (take l.assigned-index l.assigned-items)
