use Rattle.std.proofs.Common.{◌≡◌, None, sym, ap, ◌∙◌}
use Rattle.std.specs.Map.{values_of}
use Rattle.std.proofs.lemmas.Bool.{false≢true}
use Rattle.cpi_rows.specs.Keyed.{with_row, row_at}
use Rattle.cpi_rows.proofs.Places.{put_in_order}
use Rattle.cpi_rows.proofs.ByKey.{lookup_row, stay_under, insert_puts}
use Rattle.cpi_rows.proofs.by_key.RowsByKey.put.Goals as goal

pub returns-in_err-insert-clause-replaced : goal.returns-in_err-insert-clause-replaced
returns-in_err-insert-clause-replaced g c = λ some.
    let o = g.met.T.Key.Ord.total in
    let missing : row_at g.T.Key.Ord.cmp g.T.Keyed.key (g.T.Keyed.key c.args.row) c.args.self.now ≡ None =
    ap (row_at g.T.Key.Ord.cmp g.T.Keyed.key (g.T.Keyed.key c.args.row)) (sym c.self.view_is)
    ∙ sym (lookup_row o g.T.Keyed.key (g.T.Keyed.key c.args.row) c.self.inside.rows.entries c.self.invariant.under)
    ∙ (rw c.key.ensures at c.in_err-insert.ensures.absent) in
    absurd (false≢true (rw missing at some))

pub invariant_of-self-2 : goal.invariant_of-self-2
invariant_of-self-2 g c =
    let o = g.met.T.Key.Ord.total in
    let es = c.self.inside.rows.entries in
    let after : values_of c.insert.new.self.entries ≡ with_row g.T.Key.Ord.cmp g.T.Keyed.key c.args.row (values_of es) =
    rw (c.in_ok-insert.ensures.entries, c.key.ensures)
    (insert_puts o g.T.Keyed.key c.args.row es c.self.invariant.under c.self.invariant.order) in
    record {
      under = rw (c.in_ok-insert.ensures.entries, c.key.ensures)
          (stay_under o g.T.Keyed.key c.args.row es c.self.invariant.under);
      order = rw after (put_in_order o g.T.Keyed.key (values_of es) c.args.row c.self.invariant.order);
    }

pub returns-clause-ok : goal.returns-clause-ok
returns-clause-ok g c =
    let o = g.met.T.Key.Ord.total in
    let es = c.self.inside.rows.entries in
    let after : values_of c.insert.new.self.entries ≡ with_row g.T.Key.Ord.cmp g.T.Keyed.key c.args.row (values_of es) =
    rw (c.in_ok-insert.ensures.entries, c.key.ensures)
    (insert_puts o g.T.Keyed.key c.args.row es c.self.invariant.under c.self.invariant.order) in
    after ∙ ap (with_row g.T.Key.Ord.cmp g.T.Keyed.key c.args.row) c.self.view_is

pub returns-clause-order : goal.returns-clause-order
returns-clause-order g c =
    let o = g.met.T.Key.Ord.total in
    let es = c.self.inside.rows.entries in
    let after : values_of c.insert.new.self.entries ≡ with_row g.T.Key.Ord.cmp g.T.Keyed.key c.args.row (values_of es) =
    rw (c.in_ok-insert.ensures.entries, c.key.ensures)
    (insert_puts o g.T.Keyed.key c.args.row es c.self.invariant.under c.self.invariant.order) in
    rw after (put_in_order o g.T.Keyed.key (values_of es) c.args.row c.self.invariant.order)
