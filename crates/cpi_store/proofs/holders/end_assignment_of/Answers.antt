use Rattle.std.proofs.Common.{◌≡◌, ap, ◌∙◌, refl, sym, get_or, None, Ok, Err}
use Rattle.std.specs.Ordering.{nat_cmp}
use Rattle.std.proofs.lemmas.Cmp.{nat_cmp_total}
use Rattle.cpi_rows.specs.Keyed.{IsPlace, row_at}
use Rattle.cpi_rows.proofs.Places.{missing_at_gap}
use Rattle.cpi_survey.specs.Assignment.{with_last_month}
use Rattle.cpi_survey.specs.Own.{OwnPart}
use Rattle.cpi_store.specs.declared.holder.Holder.{Holder}
use Rattle.cpi_store.proofs.Ended.{all_ended, all_stay, none_apart, placed_ended, names_ended}
use Rattle.cpi_store.proofs.Found.{number_is, quotes_same, order_after, collectors_after}
use Rattle.cpi_store.proofs.holders.end_assignment_of.Goals as goal

pub returns-in-Ok-clause-assignments : goal.returns-in-Ok-clause-assignments
returns-in-Ok-clause-assignments c =
    let hs = c.args.holders.now.items in
    let h = c.index_mut-holder.result.now in
    let place : IsPlace nat_cmp (λ (h : Holder). h.number) c.args.collector hs (Ok c.in-Ok.at) =
    rw (← c.deref.ensures.value) c.in-Ok.ensures in
    let found = c.index_mut-holder.ensures.value in
    let number : (get_or hs c.in-Ok.at h).number ≡ c.args.collector =
    number_is hs c.requires.order c.args.collector c.in-Ok.at place.0 place.1 h found in
    all_ended c.args.collector c.args.slot c.args.last_month hs c.in-Ok.at _ h c.requires.order place.0 number
    (ap (λ (g : Holder). g.number) found ∙ number)
    (ap (λ (o : OwnPart). o.assignments) c.end_assignment.ensures
    ∙ ap (λ (g : Holder). with_last_month c.args.slot c.args.last_month g.own.assignments) found)

pub returns-in-Ok-clause-collectors : goal.returns-in-Ok-clause-collectors
returns-in-Ok-clause-collectors c =
    let place : IsPlace nat_cmp (λ (h : Holder). h.number) c.args.collector c.args.holders.now.items (Ok c.in-Ok.at) =
    rw (← c.deref.ensures.value) c.in-Ok.ensures in
    collectors_after c.args.holders.now.items c.requires.order c.args.collector c.in-Ok.at place.0 place.1
    c.index_mut-holder.result.now c.index_mut-holder.ensures.value _ refl refl

pub returns-in-Ok-clause-quotes : goal.returns-in-Ok-clause-quotes
returns-in-Ok-clause-quotes c =
    let place : IsPlace nat_cmp (λ (h : Holder). h.number) c.args.collector c.args.holders.now.items (Ok c.in-Ok.at) =
    rw (← c.deref.ensures.value) c.in-Ok.ensures in
    quotes_same c.args.holders.now.items c.requires.order c.args.collector c.in-Ok.at place.0 place.1
    c.index_mut-holder.result.now c.index_mut-holder.ensures.value _ refl
    (ap (λ (o : OwnPart). o.quotes) c.end_assignment.ensures)

pub returns-in-Ok-clause-order : goal.returns-in-Ok-clause-order
returns-in-Ok-clause-order c =
    let place : IsPlace nat_cmp (λ (h : Holder). h.number) c.args.collector c.args.holders.now.items (Ok c.in-Ok.at) =
    rw (← c.deref.ensures.value) c.in-Ok.ensures in
    order_after c.args.holders.now.items c.requires.order c.args.collector c.in-Ok.at place.0 place.1
    c.index_mut-holder.result.now c.index_mut-holder.ensures.value _ refl

pub returns-in-Ok-clause-placed : goal.returns-in-Ok-clause-placed
returns-in-Ok-clause-placed c = λ outlets all.
    placed_ended outlets c.args.slot c.args.last_month c.args.holders.now.items c.in-Ok.at
    c.index_mut-holder.result.now _ c.index_mut-holder.ensures.value
    (ap (λ (o : OwnPart). o.assignments) c.end_assignment.ensures) all

pub returns-in-Ok-clause-names : goal.returns-in-Ok-clause-names
returns-in-Ok-clause-names c = λ outlets all.
    names_ended outlets c.args.slot c.args.last_month c.args.holders.now.items c.in-Ok.at
    c.index_mut-holder.result.now _ c.index_mut-holder.ensures.value
    (ap (λ (o : OwnPart). o.assignments) c.end_assignment.ensures) all

pub returns-in_default-clause-assignments : goal.returns-in_default-clause-assignments
returns-in_default-clause-assignments c =
    let hs = c.args.holders.now.items in
    let place : IsPlace nat_cmp (λ (h : Holder). h.number) c.args.collector hs (Err c.in_default.field-0) =
    rw (← c.deref.ensures.value) c.in_default.ensures in
    let none : row_at nat_cmp (λ (h : Holder). h.number) c.args.collector hs ≡ None =
    missing_at_gap nat_cmp_total (λ (h : Holder). h.number) hs c.args.collector c.in_default.field-0 place in
    sym (all_stay c.args.collector c.args.slot c.args.last_month hs
    (none_apart c.args.collector c.args.slot c.args.last_month hs none))
