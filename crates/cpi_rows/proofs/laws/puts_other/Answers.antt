use Rattle.cpi_rows.proofs.Held.{puts_other}
use Rattle.cpi_rows.proofs.laws.puts_other.Goals as goal

pub returns : goal.returns
returns g c = puts_other g.T.Key.Ord.cmp g.T.Keyed.key
