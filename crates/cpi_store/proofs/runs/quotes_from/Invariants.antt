use Rattle.std.proofs.Common.{◌≡◌, take}
use Rattle.cpi_store.specs.Loading.{rows_with_number}
use Rattle.cpi_store.proofs.runs.quotes_from.Given as goal

abbrev pub invariant-rows : goal.invariant-rows
invariant-rows l = rows_with_number l.fn.collector l.own.items ≡ take l.stored-index l.next
