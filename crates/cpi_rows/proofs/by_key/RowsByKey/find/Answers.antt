use Rattle.std.proofs.Common.{ap, ◌∙◌}
use Rattle.cpi_rows.specs.Keyed.{row_at}
use Rattle.cpi_rows.proofs.ByKey.{lookup_row}
use Rattle.cpi_rows.proofs.by_key.RowsByKey.find.Goals as goal

pub returns : goal.returns
returns g c =
    c.get.ensures.value
    ∙ lookup_row g.met.T.Key.Ord.total g.T.Keyed.key c.args.key.now c.self.inside.rows.entries c.self.invariant.under
    ∙ ap (row_at g.T.Key.Ord.cmp g.T.Keyed.key c.args.key.now) c.self.view_is
