use Rattle.std.proofs.Common.{◌≡◌, ap, ◌∙◌, rules, not, true, arith}
use Rattle.std.proofs.lemmas.Bool.Decides.{nat_tests}
use Rattle.std.specs.Prelude.{is_none, nat_lt}
use Rattle.std.specs.Option.{option_copied}
use Rattle.cpi_codes.specs.CodeOrder.{code_cmp}
use Rattle.cpi_plan.proofs.RowLemmas.{found, none_not_some, and_when}
use Rattle.cpi_plan.proofs.checks.lacks_title.Goals as goal

pub returns-then-weight-gt0 : goal.returns-then-weight-gt0
returns-then-weight-gt0 c =
    let tested : c.is_none.result ≡ is_none (option_copied c.find_row.result) = search rules in
    let looked = tested ∙ ap is_none c.find_row.ensures ∙ none_not_some _
    ∙ ap not (found code_cmp (λ t. t.code) c.args.code.now c.args.titles.now) in
    let more : nat_lt 0 c.args.weight ≡ true = grind (arith, nat_tests, c.if-weight-gt0.true) in
    and_when (nat_lt 0 c.args.weight) _ _ more looked
