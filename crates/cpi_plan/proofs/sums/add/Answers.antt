use Rattle.std.proofs.Common.{◌≡◌, ap, ◌∙◌, unwrap_or, rules}
use Rattle.std.specs.Ordering.{is_eq}
use Rattle.std.specs.BTreeMap.{get}
use Rattle.cpi_codes.specs.CodeOrder.{code_cmp}
use Rattle.cpi_codes.specs.contracts.codes.CodeOrd.TheImpl.Laws.{total-law}
use Rattle.cpi_codes.specs.CodeOrder.{is_same_code}
use Rattle.cpi_rows.proofs.Truth.{equal_of_is_eq}
use Rattle.cpi_plan.proofs.SumLemmas.{lookup_agree, add_step}
use Rattle.cpi_plan.proofs.sums.add.Goals as goal

pub returns : goal.returns
returns c = λ q.
    let sums = c.args.sums.now in
    let node = c.args.node in
    let had : c.unwrap_or-had.result ≡ unwrap_or (get code_cmp sums node) 0 = search rules in
    add_step _ _ (is_same_code node q) _ c.args.amount (c.in_ok-insert.ensures.updates.0 q)
    (λ same.
    let agree = lookup_agree (λ k. is_eq (code_cmp node k)) (λ k. is_eq (code_cmp q k))
    (λ k. ap is_eq (total-law.congr node q k (equal_of_is_eq (code_cmp node q) same))) sums.entries in
    had ∙ ap (λ o. unwrap_or o 0) agree)
