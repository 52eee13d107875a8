use Rattle.std.proofs.Common.{rules, ◌≡◌, List, [], ◌∷◌, ◌++◌, Some, Err, arith}
use Rattle.sqlite.specs.Order.{Row as SqlRow}
use Rattle.sqlite.specs.Held.{state}
use Rattle.sqlite.specs.Values.{bound}
use Rattle.sqlite.specs.State.{HasCleanDisk, Shown, Survives, CommitsShowing}
use Rattle.sqlite.proofs.StateLemmas.{survives_then}
use Rattle.cpi_sql_rows.specs.Read.{AreRead, QueryLeaves}
use Rattle.cpi_sql_rows.proofs.Asking.{asked_open, asked_same}
use Rattle.cpi_sql_rows.proofs.Streaming.{IsUnderWay, at_end, failed_asked, one_more, read_more, still_asked, way_asked}
use Rattle.cpi_sql_rows.proofs.stored.gather.Goals as goal

-- the query was refused
pub returns-in_err-rows-clause-asked : goal.returns-in_err-rows-clause-asked
returns-in_err-rows-clause-asked g c =
    let held = rw (c.in_err-rows.was) at c.query.follows.holds-at-none in
    let old = state g.S.Store c.args.conn.now in
    let new = state g.S.Store c.query.follows.lender-at-none in
    record {
      clean = λ clean. record {
        disk = let d = clean.disk in omega (arith, held.survives.clean);
        is_open = asked_open old new (λ (rows : List SqlRow). rows) _ _ (Err c.in_err-rows.field-0.0) tt
            (held.err clean.disk) clean.is_open;
      };
      kept = λ clean alone plain. asked_same old new
          (λ was. c.settle.ensures.committed was alone) alone clean.is_open (λ (rows : List SqlRow). rows) _ _
          (Err c.in_err-rows.field-0.0) plain tt (held.err clean.disk);
      crash = search rules;
    }

-- the next row couldn't be read
pub returns-in_err-row-clause-asked : goal.returns-in_err-row-clause-asked
returns-in_err-row-clause-asked g c =
    let moved = c.next.follows.holds-at-none in
    let now = c.next.follows.lender-at-none.conn.now in
    let old = c.args.conn.now in
    let it : QueryLeaves c.args.text.now (bound c.args.params.now) (state g.S.Store old) (state g.S.Store now) =
    failed_asked g.S.Store _ _ old c.rows.rows.conn.now c.rows.invariant.1
    (λ disk. let way = c.rows.invariant.2 disk in (way.0, way.1)) now moved.survives _
    (λ was alone. c.settle.ensures.committed was alone)
    (λ disk. rw (c.in_err-row.was) at (moved.kept disk)) in
    search rules

-- there was no further row
pub returns-in_default-clause-asked : goal.returns-in_default-clause-asked
returns-in_default-clause-asked g c =
    let moved = c.next.follows.holds-at-none in
    let now = c.next.follows.lender-at-none.conn.now in
    let old = c.args.conn.now in
    let it : QueryLeaves c.args.text.now (bound c.args.params.now) (state g.S.Store old) (state g.S.Store now) =
    still_asked g.S.Store _ _ old c.rows.rows.conn.now c.rows.invariant.1
    (λ disk. let way = c.rows.invariant.2 disk in (way.0, way.1)) now moved.survives
    (λ disk. rw (c.in_ok-row.was) at (moved.same disk)) in
    search rules

pub returns-in_default-clause-read : goal.returns-in_default-clause-read
returns-in_default-clause-read g c =
    let moved = c.next.follows.holds-at-none in
    let now = c.next.follows.lender-at-none.conn.now in
    let old = state g.S.Store c.args.conn.now in
    let mid = state g.S.Store c.rows.rows.conn.now in
    let it : HasCleanDisk (state g.S.Store now) → (given : List SqlRow)
    × Shown c.args.text.now (bound c.args.params.now) old (state g.S.Store now) given
    × AreRead g.T.Stored.stands_for given c.rows.read.items = λ disk.
    let before : HasCleanDisk mid = omega (arith, moved.survives.clean) in
    let way = c.rows.invariant.2 before in
    let moves = rw (c.in_ok-row.was, c.in_default.is) at (moved.ok disk) in
    let hands = rw (c.in_ok-row.was, c.in_default.is) at (moved.hands disk) in
    let same = rw (c.in_ok-row.was) at (moved.same disk) in
    let shown = at_end g.S.Store c.args.text.now (bound c.args.params.now) c.args.conn.now c.rows.rows.conn.now now
    way.0 same way.1 moves hands in
    (way.0, shown, way.2) in
    λ clean.
    let disk : HasCleanDisk (state g.S.Store now) = search rules in
    let answer = it disk in
    let shown = answer.1 in
    (answer.0, search rules, answer.2)

-- the row is none that the types take
pub returns-in_err-x-clause-asked : goal.returns-in_err-x-clause-asked
returns-in_err-x-clause-asked g c =
    let moved = c.next.follows.holds-at-none in
    let now = c.next.follows.lender-at-none.conn.now in
    let old = c.args.conn.now in
    let it : QueryLeaves c.args.text.now (bound c.args.params.now) (state g.S.Store old) (state g.S.Store now) =
    still_asked g.S.Store _ _ old c.rows.rows.conn.now c.rows.invariant.1
    (λ disk. let way = c.rows.invariant.2 disk in (way.0, way.1)) now moved.survives
    (λ disk. rw (c.in_ok-row.was) at (moved.same disk)) in
    search rules

-- memory was refused
pub returns-in_err-map_err-clause-asked : goal.returns-in_err-map_err-clause-asked
returns-in_err-map_err-clause-asked g c =
    let moved = c.next.follows.holds-at-none in
    let now = c.next.follows.lender-at-none.conn.now in
    let old = c.args.conn.now in
    let it : QueryLeaves c.args.text.now (bound c.args.params.now) (state g.S.Store old) (state g.S.Store now) =
    still_asked g.S.Store _ _ old c.rows.rows.conn.now c.rows.invariant.1
    (λ disk. let way = c.rows.invariant.2 disk in (way.0, way.1)) now moved.survives
    (λ disk. rw (c.in_ok-row.was) at (moved.same disk)) in
    search rules

pub rows-preserved : goal.rows-preserved
rows-preserved g c =
    let moved = c.next.follows.holds-at-none in
    let now = c.next.follows.lender-at-none.conn.now in
    let old = state g.S.Store c.args.conn.now in
    let mid = state g.S.Store c.rows.rows.conn.now in
    let survives : Survives old (state g.S.Store now) (CommitsShowing c.args.text.now (bound c.args.params.now) old) =
    survives_then old mid (state g.S.Store now) _ _ _ (λ _ db may. may) (λ _ db no. absurd no)
    c.rows.invariant.1 moved.survives in
    let follows : HasCleanDisk (state g.S.Store now) → (given : List SqlRow)
    × IsUnderWay g.S.Store c.args.text.now (bound c.args.params.now) c.args.conn.now now given
    × AreRead g.T.Stored.stands_for given c.push.new.self.items = λ disk.
    let before : HasCleanDisk mid = omega (arith, moved.survives.clean) in
    let way = c.rows.invariant.2 before in
    let moves = rw (c.in_ok-row.was, c.in-Some.is) at (moved.ok disk) in
    let hands = rw (c.in_ok-row.was, c.in-Some.is) at (moved.hands disk) in
    let same = rw (c.in_ok-row.was) at (moved.same disk) in
    let one : g.T.Stored.stands_for c.in-Some.row.now ≡ Some c.in_ok-x.x = search rules in (
      way.0 ++ c.in-Some.row.now ∷ [],
      one_more g.S.Store c.args.text.now (bound c.args.params.now) c.args.conn.now c.rows.rows.conn.now now way.0 same
          c.in-Some.row.now way.1 moves hands,
      search (rules, read_more),
    ) in
    (search rules, survives, follows)

pub returns-clause-asked : goal.returns-clause-asked
returns-clause-asked g c =
    let now = c.rows.rows.conn.now in
    let old = c.args.conn.now in
    let it : QueryLeaves c.args.text.now (bound c.args.params.now) (state g.S.Store old) (state g.S.Store now) =
    way_asked g.S.Store _ _ old now c.rows.invariant.1
    (λ disk. let way = c.rows.invariant.2 disk in (way.0, way.1)) in
    search rules
