use Rattle.cpi_rows.proofs.Gathered.{put_gathered}
use Rattle.cpi_rows.proofs.laws.gathered_put.Goals as goal

pub returns : goal.returns
returns g c = λ number rows row after holders i d sorted in_range same put.
    put_gathered g.T.Key.Ord.cmp g.T.Keyed.key number rows row after holders i d sorted in_range same put
