use Rattle.std.proofs.Common.{◌≡◌, true, unwrap_or}
use Rattle.std.specs.Map.{keys_of, lookup}
use Rattle.std.specs.Ordering.{is_eq}
use Rattle.std.specs.List.Sorted.{IsStrictlySortedBy}
use Rattle.cpi_codes.specs.CodeOrder.{code_cmp}
use Rattle.cpi_codes.specs.declared.codes.Code.{Code}
use Rattle.cpi_plan.specs.Sums.{sum_at}
use Rattle.cpi_plan.specs.Steps.{is_without}
use Rattle.cpi_plan.proofs.checks.first_untitled.Given as goal

abbrev pub invariant-loop-code : goal.invariant-loop-code
invariant-loop-code l = record {
  rising : IsStrictlySortedBy code_cmp (keys_of l.code-iterator);
  ahead : (q : Code) → is_without l.sums l.titles q ≡ true →
      unwrap_or (lookup (λ k. is_eq (code_cmp q k)) l.code-iterator) 0 ≡ sum_at l.sums q;
}
