-- A plan by the definition is made of the rows that were sent, so its nodes are in the order of codes.
use Rattle.std.proofs.Common.{◌≡◌, ℕ, Bool, true, false, Some, None, Option, Result, Ok, Err, subst}
use Rattle.std.specs.Prelude.{◌==◌, not, if◌then◌else◌}
use Rattle.cpi_codes.specs.CodeOrder.{code_cmp}
use Rattle.cpi_codes.specs.declared.codes.Code.{Code}
use Rattle.cpi_codes.specs.contracts.codes.CodeOrd.TheImpl.Laws.{total-law}
use Rattle.cpi_rows.specs.Keyed.{IsInOrder}
use Rattle.cpi_plan.specs.declared.limits.TheConstants.{ALL_PARTS}
use Rattle.cpi_plan.specs.Plan.{Body, Plan, are_all_elementary, has_zero_weight, total_weight, has_unknown_item}
use Rattle.cpi_plan.specs.Plan.{has_unplaced_item}
use Rattle.cpi_plan.specs.Plan.{has_fit_reference}
use Rattle.cpi_plan.specs.Planned.{are_codes_once, are_items_once, first_untitled, nodes_of, plan_from_body}
use Rattle.cpi_plan.specs.Planned.{plan_if_placed, plan_if_titled}
use Rattle.cpi_plan.specs.Planned.{plan_or_fault}
use Rattle.cpi_plan.specs.declared.plan_faults.PlanFault.{PlanFault}
use Rattle.cpi_plan.proofs.InOrder.{is_in_order}

-- a test that was passed
passed : (t : Bool) (f : PlanFault) (r : Result Plan PlanFault) (p : Plan) → (if t then Err f else r) ≡ Ok p → r ≡ Ok p
passed true f r p e = let no : Err f ≡ Ok p = e in cc
passed false f r p e = e

module _ (year : ℕ) (b : Body) (p : Plan) where
  from_placed : plan_if_placed year b ≡ Ok p → plan_from_body year b ≡ p
  from_placed e =
      let made : Ok (plan_from_body year b) ≡ Ok p =
      passed (not (has_fit_reference year b.references)) _ _ p
      (passed (has_unplaced_item b.weights b.places) _ _ p
      (passed (not (are_items_once b.places)) _ _ p
      (passed (has_unknown_item b.known b.places) _ _ p e))) in
      cc

  from_titled : (o : Option Code) → plan_if_titled year b o ≡ Ok p → plan_from_body year b ≡ p
  from_titled (Some code) e = cc
  from_titled None e = from_placed e

  pub planned_is : plan_or_fault year b ≡ Ok p → plan_from_body year b ≡ p
  planned_is e =
      from_titled (first_untitled b.titles b.weights)
      (passed (not (total_weight b.weights == ALL_PARTS)) _ _ p
      (passed (has_zero_weight b.weights) _ _ p
      (passed (not (are_all_elementary b.weights b.places)) _ _ p
      (passed (not (are_codes_once b.titles b.weights)) _ _ p e))))

pub planned_nodes : (year : ℕ) (b : Body) (p : Plan) → plan_or_fault year b ≡ Ok p → IsInOrder code_cmp
    (λ n. n.code) p.nodes
planned_nodes year b p e =
    subst (λ (q : Plan). IsInOrder code_cmp (λ n. n.code) q.nodes) (planned_is year b p e)
    (is_in_order total-law (λ n. n.code) (nodes_of b.titles b.weights))
