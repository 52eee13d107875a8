use Rattle.std.proofs.Common.{◌≡◌, ◌∷◌, ap, sym, ◌∙◌, rules, subst, not, ◌&&◌, unwrap_or}
use Rattle.std.specs.Prelude.{nat_lt}
use Rattle.std.specs.List.{list_any}
use Rattle.std.specs.List.Sorted.{IsStrictlySortedBy}
use Rattle.std.specs.Map.{keys_of}
use Rattle.std.specs.Map.Iter.{deref_pair}
use Rattle.std.proofs.lemmas.Map.Iter.{btree_map_turn, rest_more}
use Rattle.std.proofs.lemmas.Map.Keys.{sorted_tail}
use Rattle.cpi_codes.specs.CodeOrder.{code_cmp, is_same_code}
use Rattle.cpi_codes.specs.contracts.codes.CodeOrd.TheImpl.Laws.{total-law}
use Rattle.cpi_plan.specs.Sums.{sum_at}
use Rattle.cpi_plan.specs.Steps.{is_without}
use Rattle.cpi_plan.proofs.FirstLemmas.{Ahead, first_at, ahead_after}
use Rattle.cpi_plan.proofs.checks.first_untitled.Goals as goal
use Rattle.cpi_plan.proofs.checks.first_untitled.Goals.{After-lacks_title}

-- the weight of this turn's entry is the sum at its code
weight_is_sum : (c : After-lacks_title) → sum_at c.args.sums.now c.in-Some.code.now ≡ c.in-Some.weight.now
weight_is_sum c =
    let turn = btree_map_turn deref_pair c.loop-code.yielded c.into_iter-code-iterator.result
    c.loop-code.code-iterator c.next.new.self c.next.result
    (c.in-Some.code, c.in-Some.weight) c.loop-code.yielded_by c.in-Some.is c.next.ensures.steps total-law
    c.args.sums.now (search rules) (search rules) in
    ap (λ o. unwrap_or o 0) turn.1

-- the test of this turn's code says whether it has a sum and no title
test_is_without : (c : After-lacks_title) →
    is_without c.args.sums.now c.args.titles.now c.in-Some.code.now ≡ c.lacks_title.result
test_is_without c =
    ap (λ n. nat_lt 0 n && not (list_any (λ t. is_same_code t.code c.in-Some.code.now) c.args.titles.now))
    (weight_is_sum c) ∙ sym c.lacks_title.ensures

-- the entries that were left before this turn are its own and those that are left after it
entries_are_left : (c : After-lacks_title) →
    c.loop-code.code-iterator ≡ (c.in-Some.code.now, c.in-Some.weight.now) ∷ c.next.new.self
entries_are_left c = rest_more deref_pair c.loop-code.code-iterator c.next.new.self c.next.result
    (c.in-Some.code, c.in-Some.weight) c.in-Some.is c.next.ensures.steps

-- the codes of this turn's entry and of those after it rise
codes_rise : (c : After-lacks_title) →
    IsStrictlySortedBy code_cmp (keys_of ((c.in-Some.code.now, c.in-Some.weight.now) ∷ c.next.new.self))
codes_rise c = subst (λ es. IsStrictlySortedBy code_cmp (keys_of es)) (entries_are_left c) c.loop-code.invariant.rising

-- each code that has a sum and no title is this turn's or comes after it
untitled_are_ahead : (c : After-lacks_title) → Ahead c.args.sums.now c.args.titles.now
    ((c.in-Some.code.now, c.in-Some.weight.now) ∷ c.next.new.self)
untitled_are_ahead c =
    subst (Ahead c.args.sums.now c.args.titles.now) (entries_are_left c) c.loop-code.invariant.ahead

pub returns-then-lacks_title : goal.returns-then-lacks_title
returns-then-lacks_title c =
    let tested = (goal.at.returns-then-lacks_title c).After-lacks_title in
    first_at c.args.sums.now c.args.titles.now c.in-Some.code.now c.in-Some.weight.now c.next.new.self
    (codes_rise tested) (untitled_are_ahead tested) (test_is_without tested ∙ c.if-lacks_title.true)

pub loop-code-preserved : goal.loop-code-preserved
loop-code-preserved c =
    let tested = (goal.at.loop-code-preserved c).After-lacks_title in
    record {
      rising = sorted_tail code_cmp c.in-Some.code.now (keys_of c.next.new.self) (codes_rise tested);
      ahead = ahead_after c.args.sums.now c.args.titles.now c.in-Some.code.now c.in-Some.weight.now c.next.new.self
          (untitled_are_ahead tested) (test_is_without tested ∙ c.if-lacks_title.false);
    }
