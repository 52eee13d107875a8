use Rattle.std.proofs.Common.{sym, ap, Some, ◌∙◌}
use Rattle.cpi_rows.proofs.Places.{row_found, missing_at_gap}
use Rattle.cpi_rows.proofs.lookup.find_row.Goals as goal

pub returns-in-Ok : goal.returns-in-Ok
returns-in-Ok g c =
    let d = c.index-rows-at.result in
    ap Some c.index-rows-at.is ∙ sym (row_found g.met.T.Key.Ord.total g.T.Keyed.key c.args.rows.now c.requires
    c.args.key.now c.in-Ok.at d c.in-Ok.ensures.0 (c.in-Ok.ensures.1 d))

pub returns-in-Err : goal.returns-in-Err
returns-in-Err g c = sym (missing_at_gap g.met.T.Key.Ord.total g.T.Keyed.key c.args.rows.now c.args.key.now _
    c.in-Err.ensures)
