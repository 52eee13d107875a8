-- The rows of a plan put in place of those of its year, as a change of the office.
use Rattle.std.proofs.Common.{◌≡◌, ◌≤◌, ℕ, List, [], ◌∷◌, Option, refl, ap}
use Rattle.std.proofs.lemmas.Cmp.{nat_cmp_total}
use Rattle.sqlite.specs.Order.{Row}
use Rattle.sqlite.specs.State.{State}
use Rattle.cpi_codes.specs.contracts.codes.CodeOrd.TheImpl.Laws.{total-law}
use Rattle.cpi_plan.specs.Plan.{Plan, IsPlan}
use Rattle.cpi_plan.specs.declared.plan_rows.Node.{Node}
use Rattle.cpi_plan.specs.declared.plan_rows.Place.{Place}
use Rattle.cpi_store.specs.Office.{PutsPlan}
use Rattle.cpi_sql_rows.specs.Tables.{table_of_nodes, table_of_plan_items, table_of_plan_refs}
use Rattle.cpi_sql_rows.specs.Lists.{node_at, node_in, office_in, place_at, place_in_row, reference_at}
use Rattle.cpi_sql_rows.specs.Lists.{reference_month_in_row}
use Rattle.cpi_sql_rows.specs.Lists.{references_for, releases_in}
use Rattle.cpi_sql_rows.specs.declared.reference_months.ReferenceMonth.{ReferenceMonth}
use Rattle.cpi_sql_writes.specs.Rest.{KeepsRest, MakesOnly}
use Rattle.cpi_sql_rows.specs.Shelf.{HasTables}
use Rattle.cpi_sql_rows.specs.Steps.{SameBut, IsRowStep, outside}
use Rattle.cpi_sql_rows.proofs.Frame.{Nodes, Places, References}
use Rattle.cpi_sql_rows.proofs.Unchanged.{same_then}
use Rattle.cpi_sql_writes.specs.PlanSteps.{is_of_year, IsYearNumber}
use Rattle.cpi_sql_writes.specs.Within.{Replaces}
use Rattle.cpi_sql_writes.proofs.Beside.{tables_written}
use Rattle.cpi_sql_writes.proofs.PlanSteps.{year_kept, year_replaced}
use Rattle.cpi_sql_writes.proofs.Replaced.{Replaced}
use Rattle.cpi_sql_writes.proofs.StoredPlans.{one_in_order, plans_put}

-- the rows of one table that take the place of a year's
abbrev Puts : {X : Type 0} → ℕ → ℕ → (Row → Option (ℕ × X)) → ℕ → List X → State → State → Type 0
Puts tree place entry year xs = IsRowStep tree (Replaces entry (is_of_year place year) (IsYearNumber year) xs)

-- nodes, then places, and then the reference month, which are those of the plan
module _ (p : Plan) (v : IsPlan p) (year : ℕ) (nodes : List Node) (places : List Place) (reference : Option ℕ)
    (at_year : year ≡ p.year) (range : (2000 ≤ p.year) × (p.year ≤ 2199)) (at_nodes : nodes ≡ p.nodes)
    (at_places : places ≡ p.places) (at_reference : reference ≡ p.reference) (a b c d : State)
    (has : HasTables (outside a)) (one : Puts table_of_nodes.tree 1 node_in year nodes a b)
    (two : Puts table_of_plan_items.tree 1 place_in_row year places b c)
    (three : Puts table_of_plan_refs.tree 0 reference_month_in_row year (references_for reference) c d) where
  nodes_put : Replaces node_in (is_of_year 1 p.year) (IsYearNumber p.year) p.nodes (a.now.trees 6) (d.now.trees 6)
  nodes_put = rw (← at_year, ← at_nodes, three.others 6 refl, two.others 6 refl) one.rows

  all_nodes : Replaced total-law (λ (n : Node). n.code) node_in p.year p.nodes (a.now.trees 6) (d.now.trees 6)
  all_nodes = year_replaced total-law (λ (n : Node). n.code) 1 node_at p.year range.0 range.1 p.nodes _ _
      has.plans.nodes v.nodes_in_order nodes_put

  places_put : Replaces place_in_row (is_of_year 1 p.year) (IsYearNumber p.year) p.places (a.now.trees 8)
      (d.now.trees 8)
  places_put = rw (← at_year, ← at_places, three.others 8 refl, ← one.others 8 refl) two.rows

  all_places : Replaced nat_cmp_total (λ (q : Place). q.item) place_in_row p.year p.places (a.now.trees 8)
      (d.now.trees 8)
  all_places = year_replaced nat_cmp_total (λ (q : Place). q.item) 1 place_at p.year range.0 range.1 p.places _ _
      has.plans.places v.places_in_order places_put

  references_put : Replaces reference_month_in_row (is_of_year 0 p.year) (IsYearNumber p.year)
      (references_for p.reference) (a.now.trees 34) (d.now.trees 34)
  references_put = rw (← at_year, ← at_reference, ← one.others 34 refl, ← two.others 34 refl) three.rows

  all_references : Replaced nat_cmp_total (λ (m : ReferenceMonth). m.month) reference_month_in_row p.year
      (references_for p.reference) (a.now.trees 34) (d.now.trees 34)
  all_references = year_replaced nat_cmp_total (λ (m : ReferenceMonth). m.month) 0 reference_at p.year range.0 range.1
      (references_for p.reference) _ _ has.plans.references (one_in_order p.reference) references_put

  -- the rows of other years are there
  rest : KeepsRest (PutsPlan p) a.now.trees d.now.trees
  rest = (
    year_kept 1 node_at p.year range.0 range.1 p.nodes _ _ nodes_put,
    year_kept 1 place_at p.year range.0 range.1 p.places _ _ places_put,
    year_kept 0 reference_at p.year range.0 range.1 (references_for p.reference) _ _ references_put,
  )

  same : SameBut (6 ∷ 8 ∷ 34 ∷ []) a.now.trees d.now.trees
  same = same_then (6 ∷ []) (8 ∷ 34 ∷ []) a.now.trees b.now.trees d.now.trees one.others
      (same_then (8 ∷ []) (34 ∷ []) b.now.trees c.now.trees d.now.trees two.others three.others)

  pub plan_done : MakesOnly (PutsPlan p) (outside a) (outside d)
  unfolding releases_in
  plan_done = tables_written (PutsPlan p) (outside a) (outside d) has three.schema refl
      (three.all (two.all (one.all has.office.tables))) (Nodes ∷ Places ∷ References ∷ []) refl same (
        all_nodes.written (rw (three.others 6 refl, two.others 6 refl) one.rowids),
        (
          all_places.written (rw (three.others 8 refl) two.rowids),
          (all_references.written three.rowids, tt),
        ),
      ) (ap (λ plans. record (office_in a.now.trees) { plans = plans })
      (plans_put p v a.now.trees d.now.trees all_nodes all_places all_references)) rest
