use Rattle.std.proofs.Common.{◌≡◌, Some, None, sym, ap, ◌∙◌}
use Rattle.std.specs.Prelude.{option_map}
use Rattle.std.specs.Option.{option_copied}
use Rattle.std.specs.Ordering.{nat_cmp}
use Rattle.cpi_rows.specs.Keyed.{row_at}
use Rattle.cpi_rows.proofs.Found.{at_map}
use Rattle.cpi_store.specs.declared.registration.Registration.{Registration}
use Rattle.cpi_store.specs.declared.holder.Holder.{Holder}
use Rattle.cpi_store.specs.Holders.{collector_of_holder}
use Rattle.cpi_store.proofs.survey.Survey.registration_at.Goals as goal

pub returns-in-Some : goal.returns-in-Some
returns-in-Some c =
    let hs = c.self.inside.holders.items in
    let found : row_at nat_cmp (λ (h : Holder). h.number) c.args.number hs ≡ Some c.in-Some.holder.now =
    rw (← c.deref.ensures.value) (sym c.find_row.ensures ∙ ap option_copied c.in-Some.is) in
    rw (← c.self.view_is) (sym (at_map collector_of_holder (λ (b : Registration). b.number) c.args.number hs
    ∙ ap (option_map collector_of_holder) found))

pub returns-in-None : goal.returns-in-None
returns-in-None c =
    let hs = c.self.inside.holders.items in
    let found : row_at nat_cmp (λ (h : Holder). h.number) c.args.number hs ≡ None =
    rw (← c.deref.ensures.value) (sym c.find_row.ensures ∙ ap option_copied c.in-None.is) in
    rw (← c.self.view_is) (sym (at_map collector_of_holder (λ (b : Registration). b.number) c.args.number hs
    ∙ ap (option_map collector_of_holder) found))
