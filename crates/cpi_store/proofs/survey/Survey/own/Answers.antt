use Rattle.std.proofs.Common.{◌≡◌, Some, None, sym, ap, ◌∙◌}
use Rattle.std.specs.Option.{option_copied}
use Rattle.std.specs.Ordering.{nat_cmp}
use Rattle.cpi_rows.specs.Keyed.{row_at}
use Rattle.cpi_store.specs.declared.holder.Holder.{Holder}
use Rattle.cpi_store.proofs.Found.{own_found, own_missing}
use Rattle.cpi_store.proofs.survey.Survey.own.Goals as goal

pub returns-in-Some : goal.returns-in-Some
returns-in-Some c =
    let found : row_at nat_cmp (λ (h : Holder). h.number) c.args.collector c.self.inside.holders.items ≡ Some
    c.in-Some.holder.now = rw (← c.deref.ensures.value) (sym c.find_row.ensures ∙ ap option_copied c.in-Some.is) in
    rw (← c.self.view_is) (own_found c.self.inside.outlets c.self.inside.taken c.args.collector
    c.in-Some.holder.now c.self.inside.holders.items c.self.invariant.holders c.self.invariant.names found)

pub returns-in-None : goal.returns-in-None
returns-in-None c =
    let found : row_at nat_cmp (λ (h : Holder). h.number) c.args.collector c.self.inside.holders.items ≡ None =
    rw (← c.deref.ensures.value) (sym c.find_row.ensures ∙ ap option_copied c.in-None.is) in
    rw (← c.self.view_is) (c.self.invariant.nobody
    ∙ own_missing c.self.inside.outlets c.self.inside.taken c.args.collector c.self.inside.holders.items
    c.self.invariant.holders found)
