use Rattle.std.proofs.Common.{◌∙◌, [], sym, ap}
use Rattle.std.specs.Prelude.{option_map}
use Rattle.std.specs.Option.{option_copied}
use Rattle.cpi_sql_reads.proofs.cached_list.lent_list.Goals as goal

pub returns-in_err-place : goal.returns-in_err-place
returns-in_err-place g c =
    ap option_copied c.from_residual.ensures
    ∙ sym (ap (option_map (λ l. l.rows)) (c.in_err-place.ensures.found (record { month = 0; revision = 0; rows = [] })))
