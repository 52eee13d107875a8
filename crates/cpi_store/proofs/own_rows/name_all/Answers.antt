use Rattle.std.proofs.Common.{◌≡◌, List, map, ap, ◌∙◌, arith}
use Rattle.std.proofs.lemmas.List.{take_all}
use Rattle.cpi_survey.specs.declared.assignment.Assigned.{Assigned}
use Rattle.cpi_store.specs.Outlet.{with_name}
use Rattle.cpi_store.specs.declared.given.Given.{Given}
use Rattle.cpi_store.proofs.Loaded.{named_in_order}
use Rattle.cpi_store.proofs.own_rows.name_all.Goals as goal

pub returns-clause-order : goal.returns-clause-order
returns-clause-order c =
    let us = c.args.outlets.now in
    let named : List Given → List Assigned = λ gs. map (with_name us) (map (λ g. g.assignment) gs) in
    let whole : c.all.named.items ≡ named c.args.given.now =
    c.all.invariant.named ∙ ap named (take_all c.all.row-index c.args.given.now (omega arith)) in
    rw whole (named_in_order us c.args.given.now c.requires)
