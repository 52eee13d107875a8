use Rattle.cpi_wire.proofs.PlanRead.{with_title, with_weight, with_place, with_reference}
use Rattle.cpi_wire.proofs.plan_body.add.Goals as goal

pub returns-in_ok-push-in-Title : goal.returns-in_ok-push-in-Title
returns-in_ok-push-in-Title c = λ rows e.
    rw (c.in_ok-push-in-Title.ensures.ok, c.in-Title.is) (with_title c.args.body.now rows c.in-Title.title e)

pub returns-in_ok-push-in-Weight : goal.returns-in_ok-push-in-Weight
returns-in_ok-push-in-Weight c = λ rows e.
    rw (c.in_ok-push-in-Weight.ensures.ok, c.in-Weight.is) (with_weight c.args.body.now rows c.in-Weight.weight e)

pub returns-in_ok-push-in-Place : goal.returns-in_ok-push-in-Place
returns-in_ok-push-in-Place c = λ rows e.
    rw (c.in_ok-push-in-Place.ensures.ok, c.in-Place.is) (with_place c.args.body.now rows c.in-Place.place e)

pub returns-in_ok-push-in-Reference : goal.returns-in_ok-push-in-Reference
returns-in_ok-push-in-Reference c = λ rows e.
    rw (c.in_ok-push-in-Reference.ensures.ok, c.in-Reference.is)
    (with_reference c.args.body.now rows c.in-Reference.month e)
