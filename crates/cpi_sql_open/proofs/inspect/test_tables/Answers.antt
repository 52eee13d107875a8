use Rattle.std.proofs.Common.{IsTrue, rules}
use Rattle.sqlite.specs.Held.{state}
use Rattle.cpi_sql_open.proofs.Looks.{all_finds, all_tests, on_two, plan_tests, small_tests}
use Rattle.cpi_sql_open.proofs.inspect.test_tables.Goals as goal

pub returns-in_err-read_all_small-clause-test : goal.returns-in_err-read_all_small-clause-test
returns-in_err-read_all_small-clause-test g c = λ wanted is.
    let passed : IsTrue c.in_ok-has_tables.field-0 = search rules in
    small_tests wanted _ _ _ is _ _ c.requires
    (c.in_ok-has_tables.ensures.same is.tables wanted.schema is.makes passed) c.read_all_small.ensures.look

pub returns-in_err-scan_each_plan-clause-test : goal.returns-in_err-scan_each_plan-clause-test
returns-in_err-scan_each_plan-clause-test g c = λ wanted is.
    let passed : IsTrue c.in_ok-has_tables.field-0 = search rules in
    plan_tests wanted _ _ _ is _ (state g.S.Store c.read_all_small.new.conn) c.requires
    (c.in_ok-has_tables.ensures.same is.tables wanted.schema is.makes passed) c.read_all_small.ensures.look
    c.in_ok-read_all_small.ensures.open _ (c.scan_each_plan.ensures.look wanted.plans)

pub returns-clause-test : goal.returns-clause-test
returns-clause-test g c = λ wanted is.
    let passed : IsTrue c.in_ok-has_tables.field-0 = search rules in
    all_tests wanted _ _ _ is _ (state g.S.Store c.read_all_small.new.conn) c.requires
    (c.in_ok-has_tables.ensures.same is.tables wanted.schema is.makes passed) c.read_all_small.ensures.look
    c.in_ok-read_all_small.ensures.open (state g.S.Store c.scan_each_plan.new.conn)
    (c.scan_each_plan.ensures.look wanted.plans) _ c.in_ok-scan_each_plan.ensures.stays
    (c.scan_each.ensures.look wanted.trees)

pub returns-clause-found : goal.returns-clause-found
returns-clause-found g c = λ wanted is.
    let passed : IsTrue c.in_ok-has_tables.field-0 = search rules in
    on_two c.scan_each.result _ _ _ c.scan_each.ensures.stays c.scan_each.ensures.rise (λ stays rise.
    all_finds wanted _ _ _ is _ (state g.S.Store c.read_all_small.new.conn) c.requires
    (c.in_ok-has_tables.ensures.same is.tables wanted.schema is.makes passed) c.read_all_small.ensures.look
    c.in_ok-read_all_small.ensures.open (state g.S.Store c.scan_each_plan.new.conn)
    (c.scan_each_plan.ensures.look wanted.plans) _ c.in_ok-scan_each_plan.ensures.stays
    (c.scan_each.ensures.look wanted.trees) c.has_tables.ensures.live c.in_ok-read_all_small.ensures.whole
    c.in_ok-scan_each_plan.ensures.years rise stays)
