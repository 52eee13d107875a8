use Rattle.std.proofs.Common.{cond, refl}
use Rattle.cpi_codes.specs.CodeText.{is_code_at_or_below}
use Rattle.cpi_plan.specs.Sums.{sum_at}
use Rattle.cpi_release.proofs.PassLemmas.{none_added}
use Rattle.cpi_release.proofs.passing.count_imputed.Goals as goal

pub returns-else-imputed : goal.returns-else-imputed
returns-else-imputed c = λ q.
    none_added (is_code_at_or_below q c.args.code) (sum_at c.args.counts.now q) (cond c.args.imputed 1 0)
    (rw c.if-imputed.false refl)
