use Rattle.std.proofs.Common.{◌≡◌, ap, sym, ◌∙◌, Ok, Err, Some, None, get_or}
use Rattle.std.specs.Ordering.{nat_cmp}
use Rattle.std.proofs.lemmas.Cmp.{nat_cmp_total}
use Rattle.cpi_rows.specs.Keyed.{IsPlace}
use Rattle.cpi_rows.proofs.Places.{row_found, put_at_gap}
use Rattle.cpi_store.specs.declared.holder.Holder.{Holder}
use Rattle.cpi_store.proofs.holders.put_holder.Goals as goal

pub unreachable-requires : goal.unreachable-requires
unreachable-requires c =
    let hs = c.args.holders.now.items in
    let place : IsPlace nat_cmp (λ (h : Holder). h.number) c.args.holder.number hs (Ok c.in-Ok.field-0) =
    rw (← c.deref.ensures.value) c.in-Ok.ensures in
    let found : None ≡ Some (get_or hs c.in-Ok.field-0 c.args.holder) = sym c.requires.new
    ∙ row_found nat_cmp_total (λ (h : Holder). h.number) hs c.requires.order c.args.holder.number c.in-Ok.field-0
    c.args.holder place.0 (place.1 c.args.holder) in
    cc

pub returns-clause-holders : goal.returns-clause-holders
returns-clause-holders c =
    let place : IsPlace nat_cmp (λ (h : Holder). h.number) c.args.holder.number c.args.holders.now.items
    (Err c.in-Err.at) = rw (← c.deref.ensures.value) c.in-Err.ensures in
    c.in_ok-insert-in-Err-2.ensures.items ∙ ap (λ hs. hs)
    (rw c.reserve.ensures.items (put_at_gap nat_cmp_total (λ (h : Holder). h.number) c.args.holders.now.items
    c.args.holder c.in-Err.at place))
