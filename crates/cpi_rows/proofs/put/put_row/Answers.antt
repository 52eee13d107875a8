use Rattle.std.proofs.Common.{◌∙◌, Ok, Err}
use Rattle.std.proofs.lemmas.Bool.{false≢true}
use Rattle.cpi_rows.specs.Keyed.{IsPlace}
use Rattle.cpi_rows.proofs.Places.{put_at_row, put_at_gap, put_in_order, missing_at_gap}
use Rattle.cpi_rows.proofs.put.put_row.Goals as goal

pub returns-in-Ok-clause-ok : goal.returns-in-Ok-clause-ok
returns-in-Ok-clause-ok g c =
    let place : IsPlace g.T.Key.Ord.cmp g.T.Keyed.key (g.T.Keyed.key c.args.row) c.args.rows.now.items
    (Ok c.in-Ok.at) = rw (← c.deref.ensures.value, ← c.key.ensures) c.in-Ok.ensures in
    put_at_row g.met.T.Key.Ord.total g.T.Keyed.key c.args.rows.now.items c.requires c.args.row c.in-Ok.at place

pub returns-in-Ok-clause-order : goal.returns-in-Ok-clause-order
returns-in-Ok-clause-order g c =
    let place : IsPlace g.T.Key.Ord.cmp g.T.Keyed.key (g.T.Keyed.key c.args.row) c.args.rows.now.items
    (Ok c.in-Ok.at) = rw (← c.deref.ensures.value, ← c.key.ensures) c.in-Ok.ensures in
    rw (put_at_row g.met.T.Key.Ord.total g.T.Keyed.key c.args.rows.now.items c.requires c.args.row c.in-Ok.at place)
    (put_in_order g.met.T.Key.Ord.total g.T.Keyed.key c.args.rows.now.items c.args.row c.requires)

pub returns-in_err-insert-in-Err-clause-replaced : goal.returns-in_err-insert-in-Err-clause-replaced
returns-in_err-insert-in-Err-clause-replaced g c = λ some.
    let place : IsPlace g.T.Key.Ord.cmp g.T.Keyed.key (g.T.Keyed.key c.args.row) c.args.rows.now.items
    (Err c.in-Err.at) = rw (← c.deref.ensures.value, ← c.key.ensures) c.in-Err.ensures in
    absurd (false≢true (rw (missing_at_gap g.met.T.Key.Ord.total g.T.Keyed.key c.args.rows.now.items
    (g.T.Keyed.key c.args.row) c.in-Err.at place) at some))

pub returns-clause-ok : goal.returns-clause-ok
returns-clause-ok g c =
    let place : IsPlace g.T.Key.Ord.cmp g.T.Keyed.key (g.T.Keyed.key c.args.row) c.args.rows.now.items
    (Err c.in-Err.at) = rw (← c.deref.ensures.value, ← c.key.ensures) c.in-Err.ensures in
    c.in_ok-insert-in-Err.ensures.items ∙ put_at_gap g.met.T.Key.Ord.total g.T.Keyed.key c.args.rows.now.items
    c.args.row c.in-Err.at place

pub returns-clause-order : goal.returns-clause-order
returns-clause-order g c =
    let place : IsPlace g.T.Key.Ord.cmp g.T.Keyed.key (g.T.Keyed.key c.args.row) c.args.rows.now.items
    (Err c.in-Err.at) = rw (← c.deref.ensures.value, ← c.key.ensures) c.in-Err.ensures in
    rw (c.in_ok-insert-in-Err.ensures.items ∙ put_at_gap g.met.T.Key.Ord.total g.T.Keyed.key c.args.rows.now.items
    c.args.row c.in-Err.at place)
    (put_in_order g.met.T.Key.Ord.total g.T.Keyed.key c.args.rows.now.items c.args.row c.requires)
