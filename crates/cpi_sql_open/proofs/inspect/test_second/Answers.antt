use Rattle.cpi_sql_rows.proofs.FoundTables.{on_ok_implies}
use Rattle.cpi_sql_open.specs.Looks.{second_wanted}
use Rattle.cpi_sql_open.proofs.Looks.{second_found, second_tests}
use Rattle.cpi_sql_open.proofs.inspect.test_second.Goals as goal

pub returns-clause-test : goal.returns-clause-test
returns-clause-test g c = c.test_tables.ensures.test second_wanted second_tests

pub returns-clause-found : goal.returns-clause-found
returns-clause-found g c =
    on_ok_implies c.test_tables.result _ _ (c.test_tables.ensures.found second_wanted second_tests)
    (second_found _ _ c.requires (c.test_tables.ensures.test second_wanted second_tests))
