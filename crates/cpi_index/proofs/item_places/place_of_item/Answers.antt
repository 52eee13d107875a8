use Rattle.std.proofs.Common.{None, Ok, Err, get_or, sym, ap, ◌∙◌, subst}
use Rattle.std.specs.Ordering.{nat_cmp}
use Rattle.cpi_rows.specs.Keyed.{IsPlace}
use Rattle.cpi_plan.specs.declared.plan_rows.Place.{Place}
use Rattle.cpi_index.proofs.InSamples.{item_found, item_missing}
use Rattle.cpi_index.proofs.item_places.place_of_item.Goals as goal

pub returns-in-Ok : goal.returns-in-Ok
returns-in-Ok c =
    let plan = c.args.plan.now in
    let i = c.in-Ok.at in
    let place : IsPlace nat_cmp (λ (p : Place). p.item) c.args.item plan.places (Ok i) =
    subst (λ ps. IsPlace nat_cmp (λ (p : Place). p.item) c.args.item ps (Ok i)) c.places.ensures.value
    c.in-Ok.ensures in
    ap (λ z. get_or z i None) c.requires
    ∙ sym (item_found plan.weights plan.places c.args.item i None c.places.ensures.kept.places_in_order place)

pub returns-in-Err : goal.returns-in-Err
returns-in-Err c =
    let plan = c.args.plan.now in
    let i = c.in-Err.field-0 in
    sym (item_missing plan.weights plan.places c.args.item i
    (subst (λ ps. IsPlace nat_cmp (λ (p : Place). p.item) c.args.item ps (Err i)) c.places.ensures.value
    c.in-Err.ensures))
