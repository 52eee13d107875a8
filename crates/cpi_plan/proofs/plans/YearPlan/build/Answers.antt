use Rattle.std.proofs.Common.{IfOk, rules}
use Rattle.std.specs.List.Sorted.{IsPermutation}
use Rattle.cpi_codes.specs.CodeOrder.{code_cmp}
use Rattle.cpi_rows.specs.Keyed.{IsInOrder}
use Rattle.cpi_plan.specs.Plan.{CodesOnce, IsPlan}
use Rattle.cpi_plan.proofs.BuiltLemmas.{built_moved}
use Rattle.cpi_plan.proofs.PlannedLemmas.{built_planned, from_ok, twice_planned}
use Rattle.cpi_plan.proofs.plans.YearPlan.build.Goals as goal

pub returns-then-not-titles_once-clause-planned : goal.returns-then-not-titles_once-clause-planned
returns-then-not-titles_once-clause-planned c =
    let twice : CodesOnce c.args.titles.items c.args.weights.items → ⊥ = search rules in
    λ n. twice_planned c.args.year (record {
      known = c.args.known_items.now;
      titles = c.args.titles.items;
      weights =
          c.args.weights.items;
      places = c.args.places.items;
      references = c.args.references.items;
    }) twice

pub returns-clause-built : goal.returns-clause-built
returns-clause-built c =
    let titles_moved : IsPermutation c.args.titles.items c.put_in_order.new.rows.items = search rules in
    let weights_moved : IsPermutation c.args.weights.items c.put_in_order-2.new.rows.items = search rules in
    let titles_sorted : IsInOrder code_cmp (λ t. t.code) c.put_in_order.new.rows.items = search rules in
    let weights_sorted : IsInOrder code_cmp (λ w. w.code) c.put_in_order-2.new.rows.items = search rules in
    built_moved c.args.year c.args.known_items.now c.args.titles.items c.put_in_order.new.rows.items
    c.args.weights.items c.put_in_order-2.new.rows.items c.args.places.items c.args.references.items titles_moved
    weights_moved titles_sorted weights_sorted c.of_ordered.result c.of_ordered.ensures

pub returns-clause-planned : goal.returns-clause-planned
returns-clause-planned c =
    let titles_moved : IsPermutation c.args.titles.items c.put_in_order.new.rows.items = search rules in
    let weights_moved : IsPermutation c.args.weights.items c.put_in_order-2.new.rows.items = search rules in
    let titles_sorted : IsInOrder code_cmp (λ t. t.code) c.put_in_order.new.rows.items = search rules in
    let weights_sorted : IsInOrder code_cmp (λ w. w.code) c.put_in_order-2.new.rows.items = search rules in
    let kept_ok : IfOk c.of_ordered.result IsPlan = search rules in
    let built = built_moved c.args.year c.args.known_items.now c.args.titles.items c.put_in_order.new.rows.items
    c.args.weights.items c.put_in_order-2.new.rows.items c.args.places.items c.args.references.items titles_moved
    weights_moved titles_sorted weights_sorted c.of_ordered.result c.of_ordered.ensures in
    λ n. built_planned c.args.year (record {
      known = c.args.known_items.now;
      titles = c.args.titles.items;
      weights =
          c.args.weights.items;
      places = c.args.places.items;
      references = c.args.references.items;
    })
    c.of_ordered.result built (from_ok c.of_ordered.result kept_ok) n
