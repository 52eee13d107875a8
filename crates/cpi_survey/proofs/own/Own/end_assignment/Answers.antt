use Rattle.std.proofs.Common.{List, Ok, Err, ap}
use Rattle.std.specs.Ordering.{nat_cmp}
use Rattle.cpi_rows.specs.Keyed.{IsPlace}
use Rattle.cpi_survey.specs.declared.assignment.Assigned.{Assigned}
use Rattle.cpi_survey.specs.Own.{OwnPart}
use Rattle.cpi_survey.specs.Slots.{quotes_of_slots}
use Rattle.cpi_survey.proofs.Ending.{slot_of, ended_at_row, ended_at_gap, ended_in_order}
use Rattle.cpi_survey.proofs.own.Own.end_assignment.Goals as goal

pub invariant_of-self : goal.invariant_of-self
invariant_of-self c =
    let place : IsPlace nat_cmp slot_of c.args.slot c.self.inside.assignments.items (Ok c.in-Ok.at) =
    rw (← c.deref.ensures.value) c.in-Ok.ensures in
    record {
      assignments = ended_in_order c.self.inside.assignments.items c.self.invariant.assignments c.args.slot
          c.args.last_month c.in-Ok.at c.index_mut.result.now place c.index_mut.ensures.value;
      slots = c.self.invariant.slots;
      greatest = c.self.invariant.greatest;
    }

pub returns-in-Ok : goal.returns-in-Ok
returns-in-Ok c =
    let place : IsPlace nat_cmp slot_of c.args.slot c.self.inside.assignments.items (Ok c.in-Ok.at) =
    rw (← c.deref.ensures.value) c.in-Ok.ensures in
    let with_rows : List Assigned → OwnPart = λ rows.
    record { assignments = rows; quotes = quotes_of_slots c.self.inside.slots.items } in
    rw (← c.self.view_is)
    (ap with_rows (ended_at_row c.self.inside.assignments.items c.self.invariant.assignments c.args.slot
    c.args.last_month c.in-Ok.at c.index_mut.result.now place c.index_mut.ensures.value))

pub returns-in_default : goal.returns-in_default
returns-in_default c =
    let place : IsPlace nat_cmp slot_of c.args.slot c.self.inside.assignments.items (Err c.in_default.field-0) =
    rw (← c.deref.ensures.value) c.in_default.ensures in
    let with_rows : List Assigned → OwnPart = λ rows.
    record { assignments = rows; quotes = quotes_of_slots c.self.inside.slots.items } in
    rw (← c.self.view_is)
    (ap with_rows (ended_at_gap c.self.inside.assignments.items c.args.slot c.args.last_month c.in_default.field-0
    place))
