use Rattle.std.proofs.Common.{◌∙◌, refl, subst, arith}
use Rattle.std.proofs.lemmas.List.{take_all}
use Rattle.sqlite.specs.Held.{state}
use Rattle.cpi_sql_writes.specs.Within.{AddsTo, Changes, Inside}
use Rattle.cpi_sql_writes.proofs.AddedRows.{list_begun, list_further}
use Rattle.cpi_sql_writes.proofs.held_row.add_all.Goals as goal

pub all-init : goal.all-init
all-init g c = let row = g.T.HeldRow in record {
  same_reference = refl;
  among = omega arith;
  added = list_begun row.entry row.table.tree (row.goes_by c.args.holder) (state g.S.Store c.args.tx.now.conn.now);
}

pub all-preserved-then-rows-at-ge-AT_ONCE : goal.all-preserved-then-rows-at-ge-AT_ONCE
all-preserved-then-rows-at-ge-AT_ONCE g c = let row = g.T.HeldRow in record {
  same_reference = c.in_ok-add_at_once.ensures.same_reference ∙ c.all.invariant.same_reference;
  among = omega (arith, c.all.invariant.among, c.if-rows-at-ge-AT_ONCE.true);
  added = list_further row.entry row.table.tree (row.goes_by c.args.holder) c.args.rows.now c.all.at 32
      (state g.S.Store c.args.tx.now.conn.now) (state g.S.Store c.all.tx.conn.now)
      (state g.S.Store c.add_at_once.new.tx.conn.now) c.all.invariant.added c.in_ok-add_at_once.ensures.added;
}

pub all-preserved : goal.all-preserved
all-preserved g c = let row = g.T.HeldRow in record {
  same_reference = c.in_ok-add_at_once-2.ensures.same_reference ∙ c.all.invariant.same_reference;
  among = omega (arith, c.all.invariant.among, c.all-test.true);
  added = list_further row.entry row.table.tree (row.goes_by c.args.holder) c.args.rows.now c.all.at 1
      (state g.S.Store c.args.tx.now.conn.now) (state g.S.Store c.all.tx.conn.now)
      (state g.S.Store c.add_at_once-else-rows-at-ge-AT_ONCE.new.tx.conn.now) c.all.invariant.added
      c.in_ok-add_at_once-2.ensures.added;
}

pub returns-clause-added : goal.returns-clause-added
returns-clause-added g c =
    let row = g.T.HeldRow in
    let old = state g.S.Store c.args.tx.now.conn.now in
    let new = state g.S.Store c.all.tx.conn.now in
    subst (λ xs. Inside old new (Changes row.table.tree (AddsTo row.entry (row.goes_by c.args.holder) xs) old new))
    (take_all c.all.at c.args.rows.now (omega (arith, c.all-test.false))) c.all.invariant.added
