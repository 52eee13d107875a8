use Rattle.cpi_rows.proofs.Places.{put_same}
use Rattle.cpi_rows.proofs.laws.put_same.Goals as goal

pub returns : goal.returns
returns g c = λ rows sorted row found. put_same g.met.T.Key.Ord.total g.T.Keyed.key rows sorted row found
