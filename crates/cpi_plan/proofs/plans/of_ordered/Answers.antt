use Rattle.std.proofs.Common.{◌≡◌, Ok, Err, ap, sym, ◌∙◌, refl, subst, true, false, not, ◌&&◌, rules}
use Rattle.std.specs.List.{list_any, list_all}
use Rattle.std.specs.List.Sorted.{IsPermutation}
use Rattle.std.proofs.lemmas.List.Sorted.{IsPermutation-refl, list_any-IsPermutation}
use Rattle.cpi_codes.specs.CodeOrder.{code_cmp, is_same_code, is_code_elementary}
use Rattle.std.specs.Ordering.{nat_cmp}
use Rattle.std.proofs.lemmas.Cmp.{nat_cmp_total as item-law}
use Rattle.cpi_rows.specs.Keyed.{IsInOrder, row_at}
use Rattle.cpi_plan.specs.Sums.{sum_at}
use Rattle.cpi_plan.specs.Steps.{nodes_with}
use Rattle.cpi_plan.specs.Plan.{ItemsOnce, IsBuilt, IsPlan, are_all_elementary, has_unknown_item, has_unplaced_item}
use Rattle.cpi_plan.specs.Plan.{has_fit_reference, plan_body_of, reference_in, is_fit_reference}
use Rattle.cpi_plan.specs.declared.plan_faults.PlanFault.TheVariants.{Reference}
use Rattle.cpi_plan.specs.Weighing.{IsWeighed}
use Rattle.cpi_plan.proofs.NodeLemmas.{few, fit_alone, is_plan, plan_with, node_rows}
use Rattle.cpi_plan.proofs.OnceLemmas.{once_from_order}
use Rattle.cpi_plan.proofs.MovedLemmas.{all_moved}
use Rattle.cpi_plan.proofs.plans.of_ordered.Goals as goal
use Rattle.cpi_plan.proofs.plans.of_ordered.Goals.{After-deref-4, After-deref-6}

-- the sums are those of the rows that were sent, which the slices only lend
sums_are_of_rows : (c : After-deref-4) → IsWeighed c.args.year (plan_body_of c.args.known_items.now
    c.args.titles.items c.args.weights.items c.args.places.items c.args.references.items) (Ok c.in_ok-sums.sums)
sums_are_of_rows c = rw (sym c.deref.ensures.value, sym c.deref-2.ensures.value, sym c.deref-3.ensures.value)
    (c.in_ok-sums.ensures c.args.year c.args.known_items.now c.args.references.items)

-- sorting changes only the order of the places
places_are_moved : (c : After-deref-6) → IsPermutation c.args.places.items c.put_in_order.new.rows.items
places_are_moved c = search rules

-- the places are in the order of items
places_are_in_order : (c : After-deref-6) → IsInOrder nat_cmp (λ p. p.item) c.put_in_order.new.rows.items
places_are_in_order c = search rules

-- each item is known, and none comes twice
items_are_known_once : (c : After-deref-6) →
    (has_unknown_item c.args.known_items.now c.args.places.items ≡ false) × ItemsOnce c.args.places.items
items_are_known_once c = (
  search rules,
  once_from_order item-law (λ p. p.item) c.args.places.items c.put_in_order.new.rows.items (places_are_moved c)
      (places_are_in_order c),
)

-- sorting the places neither adds nor removes an item whose aggregate has no weight
unplaced_is_kept : (c : After-deref-6) → has_unplaced_item c.args.weights.items c.args.places.items ≡
    has_unplaced_item c.args.weights.items c.put_in_order.new.rows.items
unplaced_is_kept c =
    list_any-IsPermutation (λ p. not (list_any (λ w. is_same_code w.code p.aggregate) c.args.weights.items))
    c.args.places.items c.put_in_order.new.rows.items (places_are_moved c)

pub returns-then-has_unknown : goal.returns-then-has_unknown
returns-then-has_unknown c =
    let weighed = sums_are_of_rows (goal.at.returns-then-has_unknown c).After-deref-4 in
    (weighed.0, search rules)

pub returns-then-not-branch : goal.returns-then-not-branch
returns-then-not-branch c =
    let weighed = sums_are_of_rows (goal.at.returns-then-not-branch c).After-deref-4 in
    let known : has_unknown_item c.args.known_items.now c.args.places.items ≡ false = search rules in
    ((weighed.0, known), search rules)

pub returns-then-has_unplaced : goal.returns-then-has_unplaced
returns-then-has_unplaced c =
    let sorted = (goal.at.returns-then-has_unplaced c).After-deref-6 in
    let weighed = sums_are_of_rows (goal.at.returns-then-has_unplaced c).After-deref-4 in
    let once = items_are_known_once sorted in
    let unplaced : has_unplaced_item c.args.weights.items c.put_in_order.new.rows.items ≡ true = search rules in
    (((weighed.0, once.0), once.1), unplaced_is_kept sorted ∙ unplaced)

pub returns-in_err-reference : goal.returns-in_err-reference
returns-in_err-reference c =
    let sorted = (goal.at.returns-in_err-reference c).After-deref-6 in
    let weighed = sums_are_of_rows (goal.at.returns-in_err-reference c).After-deref-4 in
    let once = items_are_known_once sorted in
    let placed : has_unplaced_item c.args.weights.items c.put_in_order.new.rows.items ≡ false = search rules in
    let unfit : has_fit_reference c.args.year c.args.references.items ≡ false = search rules in
    let fault : c.from_residual-in_err-reference.result ≡ Err Reference = search rules in
    let body = plan_body_of c.args.known_items.now c.args.titles.items c.args.weights.items c.args.places.items
    c.args.references.items in
    subst (IsBuilt c.args.year body) (sym fault)
    ((((weighed.0, once.0), once.1), unplaced_is_kept sorted ∙ placed), unfit)

pub nodes_of-requires : goal.nodes_of-requires
nodes_of-requires c =
    let weighed = sums_are_of_rows (goal.at.nodes_of-requires c).After-deref-4 in
    few c.in_ok-sums.sums c.args.weights.items weighed.1 weighed.0.0.0.1 weighed.0.0.1

pub invariant_of-result : goal.invariant_of-result
invariant_of-result c =
    let titles = c.args.titles.items in
    let weights = c.args.weights.items in
    let sent = c.args.places.items in
    let places = c.put_in_order.new.rows.items in
    let sums = c.in_ok-sums.sums in
    let sorted = (goal.at.invariant_of-result c).After-deref-6 in
    let weighed = sums_are_of_rows (goal.at.invariant_of-result c).After-deref-4 in
    let passed = weighed.0 in
    let placed : has_unplaced_item weights places ≡ false = search rules in
    let made : c.in_ok-nodes.nodes.items ≡ nodes_with (sum_at sums) titles = search rules in
    let elementary : are_all_elementary weights places ≡ true =
    ap (λ b. list_all (λ w. is_code_elementary w.code) weights && b)
    (sym (all_moved (λ p. is_code_elementary p.aggregate) sent places (places_are_moved sorted)))
    ∙ passed.0.0.0.1 in
    let fit : has_fit_reference c.args.year c.args.references.items ≡ true = search rules in
    let is : c.in_ok-reference.reference ≡ reference_in c.args.references.items = search rules in
    let referred : is_fit_reference c.args.year c.in_ok-reference.reference ≡ true =
    ap (is_fit_reference c.args.year) is ∙ fit_alone c.args.year c.args.references.items fit in
    subst (λ ns. IsPlan (plan_with c.args.year weights places c.in_ok-reference.reference ns)) (sym made)
    (is_plan sums weights weighed.1 passed.0.0.1 c.args.year titles places c.in_ok-reference.reference
    c.requires.year_in_calendar c.requires.titles_in_order c.requires.weights_in_order
    (places_are_in_order sorted) elementary passed.0.1 passed.1 placed referred)

pub returns : goal.returns
returns c =
    let titles = c.args.titles.items in
    let weights = c.args.weights.items in
    let sums = c.in_ok-sums.sums in
    let sorted = (goal.at.returns c).After-deref-6 in
    let weighed = sums_are_of_rows (goal.at.returns c).After-deref-4 in
    let once = items_are_known_once sorted in
    let placed : has_unplaced_item weights c.put_in_order.new.rows.items ≡ false = search rules in
    let fit : has_fit_reference c.args.year c.args.references.items ≡ true = search rules in
    let is : c.in_ok-reference.reference ≡ reference_in c.args.references.items = search rules in
    let made : c.in_ok-nodes.nodes.items ≡ nodes_with (sum_at sums) titles = search rules in (
      ((((weighed.0, once.0), once.1), unplaced_is_kept sorted ∙ placed), fit),
      record {
        of_year = refl;
        has_nodes = λ q. ap (λ ns. row_at code_cmp (λ n. n.code) q ns) made
            ∙ node_rows sums weights weighed.1 weighed.0.0.0.1 titles q;
        has_weights = IsPermutation-refl weights;
        has_places = places_are_moved sorted;
        has_reference = is;
      },
    )
