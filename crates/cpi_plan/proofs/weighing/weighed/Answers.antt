use Rattle.std.proofs.Common.{◌≡◌, ℕ, List, sym, ◌∙◌, false, rules}
use Rattle.cpi_codes.specs.declared.codes.Code.{Code}
use Rattle.cpi_plan.specs.declared.items.Item.{Item}
use Rattle.cpi_plan.specs.Sums.{sum_at, weight_under}
use Rattle.cpi_plan.specs.Steps.{IsFirstCode, is_without}
use Rattle.cpi_plan.specs.Plan.{Passes4, is_untitled, plan_body_of}
use Rattle.cpi_plan.proofs.BuiltLemmas.{ordered_codes_come_once}
use Rattle.cpi_plan.proofs.NodeLemmas.{first_is, without_untitled}
use Rattle.cpi_plan.proofs.weighing.weighed.Goals as goal
use Rattle.cpi_plan.proofs.weighing.weighed.Goals.{Else-found-from}

-- no code comes twice, all are elementary, no weight is 0 and their sum is whole
weights_pass_four : (c : Else-found-from) (known : List Item) (references : List ℕ) →
    Passes4 (plan_body_of known c.args.titles.now c.args.weights.now c.args.places.now references)
weights_pass_four c known references =
    let once = ordered_codes_come_once c.args.titles.now c.args.weights.now c.requires.titles_in_order
    c.requires.weights_in_order in
    (((once, search rules), search rules), search rules)

pub returns-then-not-are_elementary : goal.returns-then-not-are_elementary
returns-then-not-are_elementary c =
    let once = ordered_codes_come_once c.args.titles.now c.args.weights.now c.requires.titles_in_order
    c.requires.weights_in_order in
    λ year known references. (once, search rules)

pub returns-then-has_zero : goal.returns-then-has_zero
returns-then-has_zero c =
    let once = ordered_codes_come_once c.args.titles.now c.args.weights.now c.requires.titles_in_order
    c.requires.weights_in_order in
    λ year known references. ((once, search rules), search rules)

pub returns-then-found-from : goal.returns-then-found-from
returns-then-found-from c =
    let once = ordered_codes_come_once c.args.titles.now c.args.weights.now c.requires.titles_in_order
    c.requires.weights_in_order in
    λ year known references. (((once, search rules), search rules), search rules, search rules)

pub returns-in-Some : goal.returns-in-Some
returns-in-Some c =
    let whole = (goal.at.returns-in-Some c).Else-found-from in
    let kept : (q : Code) → sum_at c.in_ok-sums.sums q ≡ weight_under q c.args.weights.now = search rules in
    let first : IsFirstCode (is_without c.in_ok-sums.sums c.args.titles.now) c.in-Some.code = search rules in
    λ year known references. let passed = weights_pass_four whole known references in (
      passed,
      first_is c.in_ok-sums.sums c.args.weights.now kept passed.0.1 c.args.titles.now c.in-Some.code first,
    )

pub returns : goal.returns
returns c =
    let titles = c.args.titles.now in
    let weights = c.args.weights.now in
    let sums = c.in_ok-sums.sums in
    let whole = (goal.at.returns c).Else-found-from in
    let kept : (q : Code) → sum_at sums q ≡ weight_under q weights = search rules in
    let none : (q : Code) → is_without sums titles q ≡ false = search rules in
    λ year known references.
    let passed = weights_pass_four whole known references in
    let titled : (q : Code) → is_untitled titles weights q ≡ false =
    λ q. sym (without_untitled sums weights kept passed.0.1 titles q) ∙ none q in
    ((passed, titled), kept)
