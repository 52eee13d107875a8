use Rattle.cpi_rows.proofs.Held.{puts_own}
use Rattle.cpi_rows.proofs.laws.puts_own.Goals as goal

pub returns : goal.returns
returns g c = puts_own g.T.Key.Ord.cmp g.T.Keyed.key
