use Rattle.std.proofs.Common.{[], get_or, arith, subst}
use Rattle.sqlite.specs.Held.{state}
use Rattle.cpi_sql_rows.proofs.FoundTables.{on_ok_implies}
use Rattle.cpi_sql_rows.specs.Finding.{AsksRowids}
use Rattle.cpi_sql_rows.specs.Shelf.{HasRowids}
use Rattle.cpi_sql_open.proofs.Looks.{Rise, all_known, each_asked, first_asked, overlay_none, scanned}
use Rattle.cpi_sql_open.proofs.Texts.{blank}
use Rattle.cpi_sql_open.proofs.inspect.+scan_each.Goals as goal

pub returns-in_err-scan-clause-look : goal.returns-in_err-scan-clause-look
returns-in_err-scan-clause-look g t c = first_asked AsksRowids 0 c.args.texts.now c.in-len1-up.len_at_least _ _
    (scanned (get_or c.args.texts.now 0 blank).now _ _ c.scan.ensures.asked)

pub returns-clause-look : goal.returns-clause-look
returns-clause-look g t c = each_asked AsksRowids 0 c.args.texts.now c.in-len1-up.len_at_least _
    (state g.S.Store c.scan.new.conn) (scanned (get_or c.args.texts.now 0 blank).now _ _ c.scan.ensures.asked)
    _ c.scan_each.ensures.look c.in_ok-scan.ensures.open

pub returns-clause-rise : goal.returns-clause-rise
returns-clause-rise g t c =
    let old = state g.S.Store c.args.conn.now in
    on_ok_implies c.scan_each.result _ _ c.scan_each.ensures.rise (all_known AsksRowids 0 c.args.texts.now
    c.in-len1-up.len_at_least old (state g.S.Store c.scan.new.conn)
    (scanned (get_or c.args.texts.now 0 blank).now _ _ c.scan.ensures.asked)
    (state g.S.Store c.scan_each.new.conn) c.scan_each.ensures.look Rise
    (λ clean tree asks. subst HasRowids (overlay_none old.now.trees tree) (c.in_ok-scan.ensures.rise clean tree asks)))

pub returns-clause-stays : goal.returns-clause-stays
returns-clause-stays g t c = on_ok_implies c.scan_each.result _ _ c.scan_each.ensures.stays
    (λ stays disk was. stays disk
    (c.in_ok-scan.ensures.open (omega (arith, (c.scan_each.ensures.look []).crash.clean))))
