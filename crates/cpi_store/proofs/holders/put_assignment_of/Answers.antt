use Rattle.std.proofs.Common.{ap, refl, Ok, Err}
use Rattle.std.specs.Ordering.{nat_cmp}
use Rattle.std.proofs.lemmas.Bool.{false≢true}
use Rattle.std.proofs.lemmas.Cmp.{nat_cmp_total}
use Rattle.std.proofs.lemmas.Result.{on_ok_weaker}
use Rattle.cpi_rows.specs.Keyed.{IsPlace}
use Rattle.cpi_rows.proofs.Places.{missing_at_gap}
use Rattle.cpi_rows.proofs.Lists.{of_result}
use Rattle.cpi_survey.specs.Own.{OwnPart}
use Rattle.cpi_store.specs.declared.holder.Holder.{Holder}
use Rattle.cpi_store.proofs.Assigned.{placed_put, placed_same, names_put, names_same}
use Rattle.cpi_store.proofs.Found.{assignments_put, quotes_same, order_after, collectors_after}
use Rattle.cpi_store.proofs.holders.put_assignment_of.Goals as goal

pub unreachable-requires : goal.unreachable-requires
unreachable-requires c =
    let place : IsPlace nat_cmp (λ (h : Holder). h.number) c.args.collector c.args.holders.now.items
    (Err c.in-Err.field-0) = rw (← c.deref.ensures.value) c.in-Err.ensures in
    false≢true (rw (missing_at_gap nat_cmp_total (λ (h : Holder). h.number) c.args.holders.now.items c.args.collector
    c.in-Err.field-0 place) at c.requires.known)

pub returns-clause-ok : goal.returns-clause-ok
returns-clause-ok c =
    let place : IsPlace nat_cmp (λ (h : Holder). h.number) c.args.collector c.args.holders.now.items (Ok c.in-Ok.at) =
    rw (← c.deref.ensures.value) c.in-Ok.ensures in
    on_ok_weaker c.put_assignment.result (λ done. assignments_put c.args.holders.now.items c.requires.order
    c.args.collector c.in-Ok.at place.0 place.1 c.index_mut-holder.result.now c.index_mut-holder.ensures.value _
    refl c.args.assigned (ap (λ (o : OwnPart). o.assignments) done)) c.put_assignment.ensures.ok

pub returns-clause-collectors : goal.returns-clause-collectors
returns-clause-collectors c =
    let place : IsPlace nat_cmp (λ (h : Holder). h.number) c.args.collector c.args.holders.now.items (Ok c.in-Ok.at) =
    rw (← c.deref.ensures.value) c.in-Ok.ensures in
    collectors_after c.args.holders.now.items c.requires.order c.args.collector c.in-Ok.at place.0 place.1
    c.index_mut-holder.result.now c.index_mut-holder.ensures.value _ refl refl

pub returns-clause-quotes : goal.returns-clause-quotes
returns-clause-quotes c =
    let place : IsPlace nat_cmp (λ (h : Holder). h.number) c.args.collector c.args.holders.now.items (Ok c.in-Ok.at) =
    rw (← c.deref.ensures.value) c.in-Ok.ensures in
    quotes_same c.args.holders.now.items c.requires.order c.args.collector c.in-Ok.at place.0 place.1
    c.index_mut-holder.result.now c.index_mut-holder.ensures.value _ refl c.put_assignment.ensures.quotes

pub returns-clause-order : goal.returns-clause-order
returns-clause-order c =
    let place : IsPlace nat_cmp (λ (h : Holder). h.number) c.args.collector c.args.holders.now.items (Ok c.in-Ok.at) =
    rw (← c.deref.ensures.value) c.in-Ok.ensures in
    order_after c.args.holders.now.items c.requires.order c.args.collector c.in-Ok.at place.0 place.1
    c.index_mut-holder.result.now c.index_mut-holder.ensures.value _ refl

pub returns-clause-placed : goal.returns-clause-placed
returns-clause-placed c = λ outlets has all.
    of_result c.put_assignment.result c.put_assignment.ensures.ok c.put_assignment.ensures.err
    (λ done. placed_put outlets c.args.assigned c.args.holders.now.items c.in-Ok.at c.index_mut-holder.result.now _
    c.index_mut-holder.ensures.value (ap (λ (o : OwnPart). o.assignments) done) has all)
    (λ same. placed_same outlets c.args.assigned c.args.holders.now.items c.in-Ok.at c.index_mut-holder.result.now _
    c.index_mut-holder.ensures.value (ap (λ (o : OwnPart). o.assignments) same) all)

pub returns-clause-names : goal.returns-clause-names
returns-clause-names c = λ outlets named all.
    of_result c.put_assignment.result c.put_assignment.ensures.ok c.put_assignment.ensures.err
    (λ done. names_put outlets c.args.assigned c.args.holders.now.items c.in-Ok.at c.index_mut-holder.result.now _
    c.index_mut-holder.ensures.value (ap (λ (o : OwnPart). o.assignments) done) named all)
    (λ same. names_same outlets c.args.assigned c.args.holders.now.items c.in-Ok.at c.index_mut-holder.result.now _
    c.index_mut-holder.ensures.value (ap (λ (o : OwnPart). o.assignments) same) all)
