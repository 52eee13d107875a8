use Rattle.std.proofs.Common.{◌≡◌, List, Some, length}
use Rattle.cpi_wire.specs.declared.plan_rows.PlanRow.{PlanRow}
use Rattle.cpi_wire.specs.Input.{Record}
use Rattle.cpi_wire.specs.PlanBody.{body_of_rows, plan_rows}
use Rattle.cpi_wire.specs.Input.{IsAt}
use Rattle.cpi_wire.proofs.plan_body.plan_body.Given as goal

-- the body has the rows of the records that were read so far
abbrev pub invariant-loop : goal.invariant-loop
invariant-loop l = (given : List Record) × (rows : List PlanRow)
    × IsAt (λ s. Some s.now) (Some l.fn.text) given l.reader × (plan_rows given ≡ Some rows)
    × (l.body ≡ body_of_rows rows) × (length given ≡ l.counter)
