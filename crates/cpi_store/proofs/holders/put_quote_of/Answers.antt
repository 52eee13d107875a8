use Rattle.std.proofs.Common.{ap, refl, Ok, Err}
use Rattle.std.specs.Ordering.{nat_cmp}
use Rattle.std.proofs.lemmas.Bool.{false≢true}
use Rattle.std.proofs.lemmas.Cmp.{nat_cmp_total}
use Rattle.cpi_rows.specs.Keyed.{IsPlace}
use Rattle.cpi_rows.proofs.Places.{missing_at_gap}
use Rattle.std.proofs.lemmas.Result.{on_ok_weaker}
use Rattle.cpi_survey.specs.Own.{OwnPart}
use Rattle.cpi_store.specs.declared.holder.Holder.{Holder}
use Rattle.cpi_store.proofs.Found.{own_quotes, quotes_after, assignments_after, order_after, collectors_after}
use Rattle.cpi_store.proofs.Found.{own_assignments_after}
use Rattle.cpi_store.proofs.holders.put_quote_of.Goals as goal

pub put_quote-requires : goal.put_quote-requires
put_quote-requires c =
    let place : IsPlace nat_cmp (λ (h : Holder). h.number) c.args.collector c.args.holders.now.items (Ok c.in-Ok.at) =
    rw (← c.deref.ensures.value) c.in-Ok.ensures in
    rw (← own_quotes c.args.holders.now.items c.requires.order c.args.collector c.in-Ok.at place.0 place.1
    c.index_mut-holder.result.now c.index_mut-holder.ensures.value) c.requires.receipt

pub unreachable-requires : goal.unreachable-requires
unreachable-requires c =
    let place : IsPlace nat_cmp (λ (h : Holder). h.number) c.args.collector c.args.holders.now.items
    (Err c.in-Err.field-0) = rw (← c.deref.ensures.value) c.in-Err.ensures in
    false≢true (rw (missing_at_gap nat_cmp_total (λ (h : Holder). h.number) c.args.holders.now.items c.args.collector
    c.in-Err.field-0 place) at c.requires.known)

pub returns-clause-collectors : goal.returns-clause-collectors
returns-clause-collectors c =
    let place : IsPlace nat_cmp (λ (h : Holder). h.number) c.args.collector c.args.holders.now.items (Ok c.in-Ok.at) =
    rw (← c.deref.ensures.value) c.in-Ok.ensures in
    collectors_after c.args.holders.now.items c.requires.order c.args.collector c.in-Ok.at place.0 place.1
    c.index_mut-holder.result.now c.index_mut-holder.ensures.value _ refl refl

pub returns-clause-assignments : goal.returns-clause-assignments
returns-clause-assignments c =
    let place : IsPlace nat_cmp (λ (h : Holder). h.number) c.args.collector c.args.holders.now.items (Ok c.in-Ok.at) =
    rw (← c.deref.ensures.value) c.in-Ok.ensures in
    assignments_after c.args.holders.now.items c.requires.order c.args.collector c.in-Ok.at place.0 place.1
    c.index_mut-holder.result.now c.index_mut-holder.ensures.value _ refl c.put_quote.ensures.assignments

pub returns-clause-order : goal.returns-clause-order
returns-clause-order c =
    let place : IsPlace nat_cmp (λ (h : Holder). h.number) c.args.collector c.args.holders.now.items (Ok c.in-Ok.at) =
    rw (← c.deref.ensures.value) c.in-Ok.ensures in
    order_after c.args.holders.now.items c.requires.order c.args.collector c.in-Ok.at place.0 place.1
    c.index_mut-holder.result.now c.index_mut-holder.ensures.value _ refl

pub returns-clause-ok : goal.returns-clause-ok
returns-clause-ok c =
    let place : IsPlace nat_cmp (λ (h : Holder). h.number) c.args.collector c.args.holders.now.items (Ok c.in-Ok.at) =
    rw (← c.deref.ensures.value) c.in-Ok.ensures in
    on_ok_weaker c.put_quote.result (λ done. quotes_after c.args.holders.now.items c.requires.order c.args.collector
    c.in-Ok.at place.0 place.1 c.index_mut-holder.result.now c.index_mut-holder.ensures.value _ refl c.args.quote
    (ap (λ (o : OwnPart). o.quotes) done)) c.put_quote.ensures.ok

pub returns-clause-own_assignments : goal.returns-clause-own_assignments
returns-clause-own_assignments c =
    let place : IsPlace nat_cmp (λ (h : Holder). h.number) c.args.collector c.args.holders.now.items (Ok c.in-Ok.at) =
    rw (← c.deref.ensures.value) c.in-Ok.ensures in
    own_assignments_after c.args.holders.now.items c.requires.order c.args.collector c.in-Ok.at place.0 place.1
    c.index_mut-holder.result.now c.index_mut-holder.ensures.value _ refl c.put_quote.ensures.assignments

pub returns-clause-replaced : goal.returns-clause-replaced
returns-clause-replaced c =
    let place : IsPlace nat_cmp (λ (h : Holder). h.number) c.args.collector c.args.holders.now.items (Ok c.in-Ok.at) =
    rw (← c.deref.ensures.value) c.in-Ok.ensures in
    rw (own_quotes c.args.holders.now.items c.requires.order c.args.collector c.in-Ok.at place.0 place.1
    c.index_mut-holder.result.now c.index_mut-holder.ensures.value) c.put_quote.ensures.replaced
