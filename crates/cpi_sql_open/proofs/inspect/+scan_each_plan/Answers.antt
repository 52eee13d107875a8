use Rattle.std.proofs.Common.{[], get_or, arith}
use Rattle.sqlite.specs.Held.{state}
use Rattle.cpi_sql_rows.proofs.FoundTables.{on_ok_implies}
use Rattle.cpi_sql_open.proofs.Looks.{AreDated, YearsAsked, all_known, dated, each_asked, first_asked}
use Rattle.cpi_sql_open.proofs.Texts.{blank}
use Rattle.cpi_sql_open.proofs.inspect.+scan_each_plan.Goals as goal

pub returns-in_err-scan_plans-clause-look : goal.returns-in_err-scan_plans-clause-look
returns-in_err-scan_plans-clause-look g t c = first_asked YearsAsked (0, 0) c.args.texts.now
    c.in-len1-up.len_at_least _ _ (dated (get_or c.args.texts.now 0 blank).now _ _ c.scan_plans.ensures.asked)

pub returns-clause-look : goal.returns-clause-look
returns-clause-look g t c = each_asked YearsAsked (0, 0) c.args.texts.now c.in-len1-up.len_at_least _
    (state g.S.Store c.scan_plans.new.conn) (dated (get_or c.args.texts.now 0 blank).now _ _ c.scan_plans.ensures.asked)
    _ c.scan_each_plan.ensures.look c.in_ok-scan_plans.ensures.open

pub returns-clause-years : goal.returns-clause-years
returns-clause-years g t c = on_ok_implies c.scan_each_plan.result _ _ c.scan_each_plan.ensures.years
    (all_known YearsAsked (0, 0) c.args.texts.now c.in-len1-up.len_at_least (state g.S.Store c.args.conn.now)
    (state g.S.Store c.scan_plans.new.conn)
    (dated (get_or c.args.texts.now 0 blank).now _ _ c.scan_plans.ensures.asked)
    (state g.S.Store c.scan_each_plan.new.conn) c.scan_each_plan.ensures.look AreDated
    (λ clean plan asks. c.in_ok-scan_plans.ensures.found clean plan.0 plan.1 asks))

pub returns-clause-stays : goal.returns-clause-stays
returns-clause-stays g t c = on_ok_implies c.scan_each_plan.result _ _ c.scan_each_plan.ensures.stays
    (λ stays disk was. stays disk
    (c.in_ok-scan_plans.ensures.open (omega (arith, (c.scan_each_plan.ensures.look []).crash.clean))))
