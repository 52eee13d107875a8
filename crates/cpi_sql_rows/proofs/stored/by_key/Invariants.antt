use Rattle.std.proofs.Common.{◌≡◌, ◌++◌}
use Rattle.cpi_sql_rows.proofs.stored.by_key.Given as goal

abbrev pub invariant-rows : goal.invariant-rows
invariant-rows g l = record {
  found : l.found ≡ l.yielded;
  rest : l.yielded ++ l.row-iterator.rest.items ≡ l.fn.rows.items;
}
