use Rattle.std.proofs.Common.{◌≡◌, ◌∷◌, take}
use Rattle.std.specs.String.{string_bytes}
use Rattle.cpi_sql_rows.specs.ReleaseRows.{carry_text}
use Rattle.cpi_sql_writes.proofs.put_header.spaced.Given as goal

abbrev pub invariant-others : goal.invariant-others
invariant-others l = string_bytes l.text ≡ carry_text (l.fn.first ∷ take l.code-index l.others)
