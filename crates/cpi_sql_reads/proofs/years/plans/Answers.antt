use Rattle.std.proofs.Common.{rules, ◌≡◌, ◌+◌, ◌++◌, arith, below_more, sym, ap, ◌∙◌}
use Rattle.std.specs.Option.{option_to_list}
use Rattle.sqlite.specs.Held.{state}
use Rattle.cpi_sql_rows.specs.Lists.{nodes_in, places_in, plan_at, references_in}
use Rattle.cpi_sql_rows.specs.Shelf.{IsPlanTaken}
use Rattle.cpi_sql_rows.proofs.YearLemmas.{no_years, plans_more}
use Rattle.cpi_sql_reads.proofs.Looking.{later, looks_both, looks_none, looks_refused}
use Rattle.cpi_sql_reads.proofs.PlanYears.{all_years}
use Rattle.cpi_sql_reads.proofs.years.plans.Goals as goal
use Rattle.cpi_sql_reads.proofs.years.plans.Goals.{in-Some+in_ok-map_err, in_default}

pub years-init : goal.years-init
years-init g c = record {
  look = looks_none (state g.S.Store c.args.conn.now);
  read = λ h has. c.new-plans.ensures.items ∙ sym (no_years _ _ _);
  taken = λ h has k below. absurd (omega (arith, below));
}

pub years-preserved : goal.years-preserved
years-preserved g c = record {
  look = looks_both c.years.invariant.look c.in_ok-plan.ensures.look;
  read = λ clean has.
      let found = c.in_ok-plan.field-0 in
      let plan = later c.years.invariant.look (λ t. found
      ≡ plan_at (nodes_in (t 6)) (places_in (t 8)) (references_in (t 34)) (2000 + c.years.n)) c.in_ok-plan.ensures.look
      c.in_ok-plan.ensures.read clean has in
      let added : c.match-branch-2.plans.items ≡ c.years.plans.items ++ option_to_list found =
      elim c.match-branch-2.branch [ in-Some+in_ok-map_err w ↦ search rules | in_default w ↦ search rules ] in
      added ∙ ap (λ ps. ps ++ option_to_list found)
      (c.years.invariant.read (c.plan_of.ensures.look.still.clean clean) has)
      ∙ sym (plans_more _ _ _ c.years.n found plan);
  taken = λ clean has.
      below_more (λ k. IsPlanTaken (2000 + k) (state g.S.Store c.args.conn.now).now.trees) c.years.n
      (c.years.invariant.taken (c.plan_of.ensures.look.still.clean clean) has)
      (later c.years.invariant.look (IsPlanTaken (2000 + c.years.n)) c.in_ok-plan.ensures.look
      c.in_ok-plan.ensures.taken clean has);
}

pub returns-in_err-plan-clause-look : goal.returns-in_err-plan-clause-look
returns-in_err-plan-clause-look g c =
    looks_refused c.years.invariant.look c.from_residual.result c.plan_of.ensures.look c.from_residual.ensures.0

pub returns-in_err-map_err-clause-look : goal.returns-in_err-map_err-clause-look
returns-in_err-map_err-clause-look g c = looks_refused c.years.invariant.look c.from_residual-in_err-map_err.result
    c.plan_of.ensures.look c.from_residual-in_err-map_err.ensures.0

pub returns-then-are_in_order-clause-taken : goal.returns-then-are_in_order-clause-taken
returns-then-are_in_order-clause-taken g c = λ clean has. all_years (state g.S.Store c.args.conn.now).now.trees
    (λ k below. c.years.invariant.taken clean has k (omega (arith, below, c.years.auto.n-end)))
