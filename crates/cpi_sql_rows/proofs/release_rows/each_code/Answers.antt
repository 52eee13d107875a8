use Rattle.std.proofs.Common.{arith}
use Rattle.cpi_codes.specs.CodeOf.{spelled_code}
use Rattle.cpi_sql_rows.proofs.ReleaseRows.{each_all}
use Rattle.cpi_sql_rows.proofs.release_rows.each_code.Goals as goal

pub returns : goal.returns
returns c =
    each_all spelled_code (λ t. t.now) c.args.texts.now c.all.text-index c.all.codes.items
    (omega (arith, c.all-test.false))
    c.all.invariant
