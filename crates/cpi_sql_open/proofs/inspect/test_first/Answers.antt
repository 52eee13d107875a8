use Rattle.cpi_sql_open.specs.Looks.{first_wanted}
use Rattle.cpi_sql_open.proofs.Looks.{first_tests}
use Rattle.cpi_sql_open.proofs.inspect.test_first.Goals as goal

pub returns-clause-test : goal.returns-clause-test
returns-clause-test g c = c.test_tables.ensures.test first_wanted first_tests

pub returns-clause-found : goal.returns-clause-found
returns-clause-found g c = c.test_tables.ensures.found first_wanted first_tests
