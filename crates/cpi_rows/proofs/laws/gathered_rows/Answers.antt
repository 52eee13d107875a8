use Rattle.cpi_rows.proofs.Gathered.{held_gathered}
use Rattle.cpi_rows.proofs.laws.gathered_rows.Goals as goal

pub returns : goal.returns
returns g c = λ number rows holders sorted holder. held_gathered g.T.Key.Ord.cmp g.T.Keyed.key number rows holder
    holders sorted
