-- What the samples of a month are read from, of an office.
use Rattle.cpi_release.specs.GroupCalls.{Sources}
use Rattle.cpi_store.specs.Office.{Office, quotes_of_month}

abbrev pub office_sources : Office → Sources
office_sources o = record { plans = o.plans; releases = o.releases; quotes = λ month. quotes_of_month month o }
