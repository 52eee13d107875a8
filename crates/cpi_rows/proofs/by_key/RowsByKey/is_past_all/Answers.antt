use Rattle.std.proofs.Common.{◌≡◌, true, sym, ap, ◌∙◌, rules}
use Rattle.std.specs.Ordering.{is_lt}
use Rattle.cpi_rows.specs.Keyed.{row_at}
use Rattle.cpi_rows.proofs.ByKey.{lookup_row, past_last}
use Rattle.cpi_rows.proofs.by_key.RowsByKey.is_past_all.Goals as goal

pub returns-in-Some : goal.returns-in-Some
returns-in-Some g c = λ past.
    let o = g.met.T.Key.Ord.total in
    let es = c.self.inside.rows.entries in
    let above : is_lt (g.T.Key.Ord.cmp c.in-Some.last.now c.args.key.now) ≡ true = search rules in
    ap (row_at g.T.Key.Ord.cmp g.T.Keyed.key c.args.key.now) (sym c.self.view_is)
    ∙ sym (lookup_row o g.T.Keyed.key c.args.key.now es c.self.invariant.under)
    ∙ past_last o g.T.Keyed.key c.in-Some.last.now c.args.key.now es c.in-Some.ensures.greatest above
