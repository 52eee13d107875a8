use Rattle.std.proofs.Common.{◌≡◌, ◌∙◌, rules, refl, sym, subst}
use Rattle.std.specs.Prelude.{⊤}
use Rattle.sqlite.specs.Held.{state}
use Rattle.cpi_store.specs.Office.{PutsPlan}
use Rattle.cpi_sql_rows.proofs.FoundTables.{on_ok_implies}
use Rattle.cpi_sql_rows.specs.Shelf.{HasRowids, HasTables}
use Rattle.cpi_sql_rows.specs.Steps.{outside}
use Rattle.cpi_sql_writes.specs.Rest.{MakesOnly}
use Rattle.cpi_sql_writes.specs.Within.{ChangesOffice}
use Rattle.cpi_sql_writes.proofs.PlanOffice.{plan_done}
use Rattle.cpi_sql_writes.proofs.Withins.{clean_before, inside_then, on_given}
use Rattle.cpi_sql_writes.proofs.plans.YearPlanOneChange.write.Goals as goal

pub returns-clause-written : goal.returns-clause-written
returns-clause-written g c =
    let plan = c.args.self.now in
    let result = c.replace_reference.result in
    let a = state g.S.Store c.args.tx.now.conn.now in
    let b = state g.S.Store c.replace.new.tx.conn.now in
    let d = state g.S.Store c.replace-2.new.tx.conn.now in
    let e = state g.S.Store c.replace_reference.new.tx.conn.now in
    let nodes = c.in_ok-replace.ensures.replaced in
    let places = c.in_ok-replace-2.ensures.replaced in
    let month = c.replace_reference.ensures.replaced in
    inside_then a b e nodes (inside_then {R = Unit {0}} b d e places month (λ _ _ _. tt)) (λ clean_b clean inside.
    on_given result ⊤ (ChangesOffice (PutsPlan plan) a e) (λ _.
    on_given result (HasTables (outside a)) (MakesOnly (PutsPlan plan) (outside a) (outside e)) (λ has.
    let one = nodes.step clean_b inside (record { schema = has.schema; rowids = has.plans.node_ids }) in
    let place_ids = subst HasRowids (sym (one.others 8 refl)) has.plans.place_ids in
    let two = places.step (clean_before d e month clean) one.inside
    (record { schema = one.schema; rowids = place_ids }) in
    let month_ids = subst HasRowids (sym (two.others 34 refl ∙ one.others 34 refl)) has.plans.reference_ids in
    let year : c.from-year.result ≡ plan.year = search rules in
    on_ok_implies result _ _ (month.step clean two.inside) (λ three.
    plan_done plan c.nodes.ensures.kept c.from-year.result c.nodes.result.now c.places.result.now c.reference.result
    year (rw (← year) (search rules)) c.nodes.ensures.value c.places.ensures.value c.reference.ensures.value a b d e has
    one two
    (three (record { schema = two.schema; rowids = month_ids }))))))
