use Rattle.std.proofs.Common.{◌≡◌, [], rules, arith, ap, subst, subst₂, sym}
use Rattle.std.proofs.lemmas.List.{take_all}
use Rattle.sqlite.specs.Values.{bound}
use Rattle.cpi_sql_writes.specs.Columns.{AreColumnsOf, PutsColumns}
use Rattle.cpi_sql_writes.proofs.ManyRows.{columns_more, texts_at, texts_counted}
use Rattle.cpi_sql_writes.proofs.held_row.columns_of.Goals as goal

pub all-init : goal.all-init
all-init g c = let empty : c.in_ok-all.all.items ≡ [] = search rules in ap bound empty

pub offset_bounds-texts-i : goal.offset_bounds-texts-i
offset_bounds-texts-i g c =
    let counted = texts_counted g.T.HeldRow.spells c.args.rows.now c.args.texts.now c.requires in
    omega (arith, counted, c.all-test.true)

pub bounds-texts-i : goal.bounds-texts-i
bounds-texts-i g c =
    let counted = texts_counted g.T.HeldRow.spells c.args.rows.now c.args.texts.now c.requires in
    omega (arith, counted, c.all-test.true)

pub put_columns-requires : goal.put_columns-requires
put_columns-requires g c =
    let Spells = g.T.HeldRow.spells in
    subst₂ Spells (sym c.index-rows-i.is) (sym c.index-texts-i.is)
    (texts_at Spells c.args.rows.now c.args.texts.now c.all.i c.index-rows-i.result c.index-texts-i.result
    c.all-test.true c.requires)

pub all-preserved : goal.all-preserved
all-preserved g c =
    let row = g.T.HeldRow in
    let GoesBy = row.goes_by c.args.holder in
    let old = bound c.all.all.items in
    let new = bound c.put_columns.new.all.items in
    columns_more row.table row.entry GoesBy c.args.rows.now c.all.i c.index-rows-i.result old new c.all-test.true
    c.all.invariant
    (subst (λ x. PutsColumns row.table row.entry GoesBy x old new) c.index-rows-i.is c.in_ok-put_columns.ensures)

pub returns : goal.returns
returns g c =
    let row = g.T.HeldRow in
    subst (λ xs. AreColumnsOf row.table row.entry (row.goes_by c.args.holder) xs (bound c.all.all.items))
    (take_all c.all.i c.args.rows.now (omega (arith, c.all-test.false))) c.all.invariant
