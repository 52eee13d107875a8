use Rattle.cpi_rows.proofs.Places.{none_in_order}
use Rattle.cpi_sql_reads.proofs.cached_list.rows_in.Goals as goal

pub returns-in-None-clause-order : goal.returns-in-None-clause-order
returns-in-None-clause-order g c = none_in_order g.T.Key.Ord.cmp g.T.Keyed.key
