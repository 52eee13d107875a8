use Rattle.std.proofs.Common.{◌∙◌, [], sym}
use Rattle.cpi_sql_reads.proofs.cached_list.take_list.Goals as goal

pub returns-in_err-place-clause-taken : goal.returns-in_err-place-clause-taken
returns-in_err-place-clause-taken g c =
    c.from_residual.ensures ∙ sym (rw c.deref.ensures.value at
    c.in_err-place.ensures.found (record { month = 0; revision = 0; rows = [] }))
