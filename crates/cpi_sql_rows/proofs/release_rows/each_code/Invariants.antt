use Rattle.std.proofs.Common.{◌≡◌, take, map, Some}
use Rattle.cpi_codes.specs.CodeOf.{spelled_code}
use Rattle.cpi_sql_rows.proofs.release_rows.each_code.Given as goal

abbrev pub invariant-all : goal.invariant-all
invariant-all l = map (λ t. spelled_code t.now) (take l.text-index l.texts) ≡ map Some l.codes.items
